-- What C takes apart is what was put together: the two halves of a word by a division and a remainder, and those of the display's word likewise. Assumes
-- nothing.
use mathlib.Core.Path.{◌≡◌, refl, subst}
use mathlib.Core.Bool.{Bool, true, false, cond}
use mathlib.Core.List.{List}
use Rattle.std.specs.Prelude.{Option, Some, None}
use Prim.Native.Nat.{ℕ, zero, suc, ◌/◌, ◌%◌, ◌<◌}
use native.Mathlib.Omega.{arith}
use lib.Dec.{T, eqb}
use lib.Ieee.{Float, nan, fits, binary32}
use lib.Ieee.Bits.{to_bits-lt}
use Rattle.page.specs.Answers.{by_number}
use Rattle.display.specs.Readings.{bits_of}
use Rattle.display.specs.Shows.{outcomes, first_of, shown_at, shown_of, reading_of, reading_or, pick_set, shown_by, display_no, displayed, Displayed}
use Rattle.display.specs.declared.Readings.{Readings}
use Rattle.display.specs.declared.Shown.{Shown}
use Rattle.display.specs.declared.Shown.TheVariants.{Live, Second, Held, NoNumber}
use Rattle.capi.specs.Words.{word, case_value, shown_word, display_word}

module _ (n v : ℕ) (l : v < 65536) where
  pub word_number : word n v / 65536 ≡ n
  unfolding word
  word_number = omega arith

  pub word_value : word n v % 65536 ≡ v
  unfolding word
  word_value = omega arith

-- the display's word, for a reading of single precision
case_below : (s : Shown) → case_value s < 65536
unfolding case_value
case_below (Live x) = omega arith
case_below (Second x) = omega arith
case_below (Held x) = omega arith
case_below NoNumber = omega arith

module _ (n : ℕ) (s : Shown) (single : (x : Float) → reading_of s ≡ Some x → T (fits binary32 x)) where
  bits : ℕ
  bits = bits_of (reading_or nan (reading_of s))

  bits_below : bits < 4294967296
  unfolding bits reading_or fits
  bits_below = go (reading_of s) single
    where
      go : (o : Option Float) → ((x : Float) → o ≡ Some x → T (fits binary32 x)) → bits_of (reading_or nan o) < 4294967296
      go None f = to_bits-lt binary32 nan tt
      go (Some x) f = to_bits-lt binary32 x (f x refl)

  pub shown_number : shown_word n s / 4294967296 / 65536 ≡ n
  unfolding shown_word word bits
  shown_number = omega (arith, case_below s, bits_below)

  pub shown_case : shown_word n s / 4294967296 % 65536 ≡ case_value s
  unfolding shown_word word bits
  shown_case = omega (arith, case_below s, bits_below)

  pub shown_bits : shown_word n s % 4294967296 ≡ bits_of (reading_or nan (reading_of s))
  unfolding shown_word word bits
  shown_bits = omega (arith, case_below s, bits_below)

-- the whole call, with readings of single precision: number, case and bits of what the display says come out as they went in
module _ (live second held : Float) (l : T (fits binary32 live)) (m : T (fits binary32 second)) (h : T (fits binary32 held)) (page : List ℕ) (flags : ℕ) where
  pub readings : Readings
  readings = record { live = live; second = second; held = held }

  pub says : Displayed
  says = displayed (display_no readings page flags) (shown_by readings page flags)

  same : (y : Float) → T (fits binary32 y) → (x : Float) → Some y ≡ Some x → T (fits binary32 x)
  same y f x e = let q : y ≡ x = cc in subst (λ (z : Float). T (fits binary32 z)) q f

  single_at : (a : ℕ) (x : Float) → reading_of (shown_at a readings) ≡ Some x → T (fits binary32 x)
  unfolding readings reading_of shown_at
  single_at zero x e = same live l x e
  single_at (suc zero) x e = same second m x e
  single_at (suc (suc zero)) x e = same held h x e
  single_at (suc (suc (suc a))) x e = cc

  single : (x : Float) → reading_of says.value ≡ Some x → T (fits binary32 x)
  unfolding says by_number shown_by shown_of reading_of
  single x e = go (eqb (display_no readings page flags) 0) e
    where
      go : (b : Bool) → reading_of (cond b (shown_at (first_of (outcomes (pick_set page flags))) readings) NoNumber) ≡ Some x → T (fits binary32 x)
      go true e = single_at (first_of (outcomes (pick_set page flags))) x e
      go false e = cc

  pub display_apart : let w = display_word live second held page flags in
      (w / 4294967296 / 65536 ≡ says.no) × (w / 4294967296 % 65536 ≡ case_value says.value) × (w % 4294967296 ≡ bits_of (reading_or nan (reading_of says.value)))
  unfolding display_word says readings
  display_apart = (shown_number says.no says.value single, shown_case says.no says.value single, shown_bits says.no says.value single)
