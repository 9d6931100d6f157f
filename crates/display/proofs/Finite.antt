-- What the library says of a reading, in this crate's words: whether it is finite, whether it is a NaN, and which patterns are a NaN's. By cases on
-- the reading. Assumes nothing.
use mathlib.Core.Path.{◌≡◌, refl, sym, ap, subst, ◌∙◌}
use mathlib.Core.Bool.{Bool, true, not, false≢true}
use Prim.Native.Nat.{ℕ, ◌%◌, ◌≤◌, ◌<◌}
use lib.Dec.{T}
use lib.Ieee.{Float, nan, inf, fin, is_nan, binary32, to_bits, of_bits, nan_bits}
use lib.Ieee.Bits.{nan_bits_is, nan_bits_above}
use borrow.Author.Tests.{le-ltb, lt-ltb}
use Rattle.std.specs.Float.{float_is_finite}
use Rattle.display.specs.Readings.{finite}

-- the library's word for it
pub finite_is : (x : Float) → float_is_finite x ≡ finite x
unfolding float_is_finite finite
finite_is nan = refl
finite_is (inf s) = refl
finite_is (fin s m e) = refl

-- without its sign a pattern is that of a NaN exactly where it is above the infinity's
pub no_nan_pattern : (n : ℕ) → n % 2147483648 ≤ 2139095040 → T (not (nan_bits binary32 n))
no_nan_pattern n h = subst (λ (b : Bool). T (not b)) (sym (nan_bits_above binary32 n ∙ le-ltb 2139095040 (n % 2147483648) h)) tt

nan_is : (x : Float) → is_nan x ≡ true → x ≡ nan
unfolding is_nan
nan_is nan h = refl
nan_is (inf s) h = absurd (false≢true h)
nan_is (fin s m e) h = absurd (false≢true h)

pub nan_pattern : (n : ℕ) → 2139095040 < n % 2147483648 → nan ≡ of_bits binary32 n
nan_pattern n h = sym (nan_is (of_bits binary32 n) (sym (nan_bits_is binary32 n) ∙ nan_bits_above binary32 n ∙ lt-ltb 2139095040 (n % 2147483648) h))

-- the bits of a NaN
pub nan_bits_are : (x : Float) → is_nan x ≡ true → 2143289344 ≡ to_bits binary32 x
unfolding to_bits
nan_bits_are x h = sym (ap (to_bits binary32) (nan_is x h))
