-- A word of 16 bits has a bit at place a or above exactly where it is not below 2 ^ a. Bit by bit from the top down. Assumes nothing.
use mathlib.Core.Path.{◌≡◌, refl, sym, ◌∙◌}
use mathlib.Core.Bool.{Bool, true, false, ◌||◌, not, true≢false}
use mathlib.Core.Logic.{◌↔◌}
use Prim.Native.Nat.{ℕ, zero, suc, ◌+◌, ◌-◌, ◌*◌, ◌/◌, ◌%◌, ◌^◌, ◌≤◌, ◌<◌}
use native.Mathlib.Nat.{add-zero, pow-suc, div-lt_iff_lt-mul, div-eq_of_lt}
use native.Mathlib.Omega.{arith}
use lib.Dec.{eqb}
use lib.Pow.{pow_pos}
use borrow.Author.Tests.{ne_eqb}
use Rattle.atoms.specs.Atoms.{has}
use Rattle.atoms.proofs.Bits.{two, has_high}
use Rattle.lpod.specs.Lists.{some, numbers}
use Rattle.page.specs.Refusals.{bits_from}

or_no_l : (a b : Bool) → (a || b) ≡ false → a ≡ false
or_no_l true b e = e
or_no_l false b e = refl

or_no_r : (a b : Bool) → (a || b) ≡ false → b ≡ false
or_no_r true b e = absurd (true≢false e)
or_no_r false b e = e

-- without bit a, a number of a + 1 bits has a bits
top_bit : (a s : ℕ) → s < 2 ^ suc a → has s a ≡ false → s < 2 ^ a
unfolding has
top_bit a s h e =
    let p : s < 2 ^ a * 2 = rw (← pow-suc 2 a) h in
    let q : s / 2 ^ a < 2 = (div-lt_iff_lt-mul (pow_pos a)).1 (omega arith) in
    let z : s / 2 ^ a ≡ 0 = two (λ x. eqb (x % 2) 1 ≡ false → x ≡ 0) (λ e. refl) (λ e. absurd (true≢false e)) (s / 2 ^ a) q e in
    let l : s < 1 * 2 ^ a = (div-lt_iff_lt-mul (pow_pos a)).0 (omega arith) in
    omega arith

run_low : (n a s : ℕ) → s < 2 ^ (a + n) → some (has s) (numbers a n) ≡ false → s < 2 ^ a
unfolding some numbers
run_low zero a s h e = rw add-zero at h
run_low (suc n) a s h e =
    let k : a + suc n ≡ suc a + n = omega arith in
    top_bit a s (run_low n (suc a) s (rw (← k) h) (or_no_r (has s a) (some (has s) (numbers (suc a) n)) e)) (or_no_l (has s a) (some (has s) (numbers (suc a) n)) e)

low_run : (n a i s : ℕ) → s < 2 ^ a → a ≤ i → some (has s) (numbers i n) ≡ false
unfolding some numbers
low_run zero a i s h l = refl
low_run (suc n) a i s h l = rw (has_high a s i h l) (low_run n a (suc i) s h (omega arith))

-- no bit at a or above: below 2 ^ a
pub no_bits : (a s : ℕ) → a ≤ 16 → s < 2 ^ 16 → (bits_from a s ≡ false) ↔ (s < 2 ^ a)
unfolding bits_from
no_bits a s l h =
    let k : a + (16 - a) ≡ 16 = omega arith in
    (λ e. run_low (16 - a) a s (rw k h) e, λ p. low_run (16 - a) a a s p (omega arith))

-- as the code tests it: what is left after a shift
pub bits_shift : (a s : ℕ) → a < 16 → s < 2 ^ 16 → not (eqb (s / 2 ^ a) 0) ≡ bits_from a s
bits_shift a s l h = go (bits_from a s) refl
  where
    go : (b : Bool) → bits_from a s ≡ b → not (eqb (s / 2 ^ a) 0) ≡ bits_from a s
    go false e = rw (div-eq_of_lt ((no_bits a s (omega arith) h).0 e)) (sym e)
    go true e =
        let low : (s / 2 ^ a ≡ 0 → s < 1 * 2 ^ a) = λ z. (div-lt_iff_lt-mul (pow_pos a)).0 (omega arith) in
        let up : (s / 2 ^ a ≡ 0 → ⊥) = λ z. true≢false (sym e ∙ (no_bits a s (omega arith) h).1 (omega (arith, low z))) in
        rw (ne_eqb (s / 2 ^ a) 0 up) (sym e)

pub bits_none : (a s : ℕ) → 16 ≤ a → bits_from a s ≡ false
unfolding bits_from some numbers
bits_none a s h = let z : 16 - a ≡ 0 = omega arith in rw z
