-- One bit for each set, in words of 64: the bit of a set where one word is changed, the marks that there are at all, and the blocks that have some.
-- Then what is left of one word, its lowest k bits shifted out: its bits are the sets from 64 b + k to the end of block b. The zeros at its low end
-- are a gap, the ones a run. Assumes nothing.
use mathlib.Core.Path.{◌≡◌, sym, ap, ◌∙◌, subst}
use mathlib.Core.Bool.{Bool, true, false, not, cond}
use mathlib.Core.List.{List}
use Prim.Native.Nat.{ℕ, ◌+◌, ◌-◌, ◌*◌, ◌/◌, ◌%◌, ◌^◌, ◌≤◌, ◌<◌}
use native.Mathlib.Nat.{lt_of_le_of_lt, div-one}
use native.Mathlib.Decide.{ℕ_discrete, dec_lt}
use native.Mathlib.Omega.{arith}
use lib.Dec.{T, eqb, eqb→eq}
use lib.Count.{count_trailing_zeros, trailing_le}
use lib.ListN.{length, get_or, set, get_or-eq_default}
use lib.Pow.{shr-shr, shr_le}
use lib.Seq.{get_or-set_same, get_or-set_other}
use borrow.Author.Tests.{ne_eqb, eq-eqb}
use Rattle.atoms.specs.Atoms.{has, inside}
use Rattle.atoms.proofs.Truth.{false_no}
use Rattle.atoms.proofs.Bits.{has_zero, has_low, has_below, inside_le, test_inside}
use Rattle.atoms.proofs.Count.{lowest_in, lowest_first}
use Rattle.lanes.specs.Marks.{marked, Within}
use Rattle.lanes.specs.Seek.{next_from}
use Rattle.lanes.proofs.Words.{full, has_not, has_add}
use Rattle.lanes.proofs.Seek.{NoneBetween, next_is, next_skip}

-- the lowest bit of a word that has one
pub trailing_below : (x : ℕ) → x < 2 ^ 64 → (x ≡ 0 → ⊥) → count_trailing_zeros 64 x < 64
trailing_below x small p = has_below 64 x (count_trailing_zeros 64 x) small (lowest_in 64 x small (omega (arith, p)))

module _ (marks : List ℕ) where
  pub marked_at : (b j : ℕ) → j < 64 → marked marks (64 * b + j) ≡ has (get_or marks b 0) j
  unfolding marked
  marked_at b j l =
      let e : (64 * b + j) / 64 ≡ b = omega arith in
      let f : (64 * b + j) % 64 ≡ j = omega arith in
      rw (e, f)

  -- one word changed
  pub marked_set : (b x s : ℕ) → b < length marks → marked (set marks b x) s ≡ cond (eqb (s / 64) b) (has x (s % 64)) (marked marks s)
  unfolding marked
  marked_set b x s l = go (ℕ_discrete (s / 64) b)
    where
      go : Dec (s / 64 ≡ b) → has (get_or (set marks b x) (s / 64) 0) (s % 64) ≡ cond (eqb (s / 64) b) (has x (s % 64)) (has (get_or marks (s / 64) 0) (s % 64))
      go (yes e) =
          rw (eq-eqb (s / 64) b e) (ap (λ (c : ℕ). has (get_or (set marks b x) c 0) (s % 64)) e ∙ ap (λ (y : ℕ). has y (s % 64)) (get_or-set_same marks b x 0 l))
      go (no n) = rw (ne_eqb (s / 64) b n) (ap (λ (y : ℕ). has y (s % 64)) (get_or-set_other marks b (s / 64) x 0 n))

  -- past the words that there are no set has a mark
  pub marked_past : (s : ℕ) → 64 * length marks ≤ s → marked marks s ≡ false
  unfolding marked
  marked_past s h = ap (λ (w : ℕ). has w (s % 64)) (get_or-eq_default marks 0 (omega arith)) ∙ has_zero (s % 64)

-- ---- the blocks that have marks
module _ (marks : List ℕ) (low high : ℕ) (w : Within marks low high) where
  pub within_fewer : (fewer : List ℕ) → ((s : ℕ) → T (marked fewer s) → T (marked marks s)) → Within fewer low high
  within_fewer fewer f s t = w s (f s t)

  -- none before block low, none from block b to the next that lies between, none past the last word
  pub none_before : NoneBetween (marked marks) 0 (64 * low)
  none_before s l h t = omega (arith, inside_le low (s / 64) (test_inside low (s / 64) (w s t).0))

  pub next_low : low ≤ 1024 → next_from (marked marks) 0 ≡ next_from (marked marks) (64 * low)
  next_low h = next_skip (marked marks) 0 (64 * low) (omega arith) (omega arith) none_before

  pub none_to : (b c : ℕ) → ((d : ℕ) → b < d → d < c → T (inside low d) → T (inside d high) → ⊥) → NoneBetween (marked marks) (64 * (b + 1)) (64 * c)
  none_to b c f s l h t = f (s / 64) (omega arith) (omega arith) (w s t).0 (w s t).1

  -- a search that has come to the end of block b goes on in the next that lies between
  pub next_on_block : (i b c : ℕ) → i ≤ 64 * (b + 1) → NoneBetween (marked marks) i (64 * (b + 1)) → b < c → c ≤ 1024
      → ((d : ℕ) → b < d → d < c → T (inside low d) → T (inside d high) → ⊥) → next_from (marked marks) i ≡ next_from (marked marks) (64 * c)
  next_on_block i b c h f l k g =
      next_skip (marked marks) i (64 * (b + 1)) h (omega arith) f
      ∙ next_skip (marked marks) (64 * (b + 1)) (64 * c) (omega arith) (omega arith) (none_to b c g)

pub none_past : (marks : List ℕ) (b : ℕ) → length marks ≤ b → NoneBetween (marked marks) (64 * b) 65536
none_past marks b h s l k t = false_no (marked_past marks s (omega arith)) t

-- ---- what is left of a word
module _ (marks : List ℕ) (b k x : ℕ) (e : x ≡ get_or marks b 0 / 2 ^ k) where
  -- bit j is the set 64 b + k + j, as far as the word goes
  pub bit_left : (j : ℕ) → k + j < 64 → marked marks (64 * b + k + j) ≡ has x j
  bit_left j l =
      let z : 64 * b + k + j ≡ 64 * b + (k + j) = omega arith in
      rw (z, e) (marked_at marks b (k + j) l ∙ has_add (get_or marks b 0) k j)

  pub left_shift : (n : ℕ) → x / 2 ^ n ≡ get_or marks b 0 / 2 ^ (k + n)
  left_shift n = rw e (shr-shr (get_or marks b 0) k n)

  pub left_none : x ≡ 0 → NoneBetween (marked marks) (64 * b + k) (64 * (b + 1))
  left_none z s l h t =
      let i : 64 * b + k + (s - (64 * b + k)) ≡ s = omega arith in
      subst T (ap (marked marks) (sym i) ∙ bit_left (s - (64 * b + k)) (omega arith) ∙ ap (λ (y : ℕ). has y (s - (64 * b + k))) z ∙ has_zero (s - (64 * b + k))) t

  module _ (small : get_or marks b 0 < 2 ^ 64) where
    pub left_small : x < 2 ^ 64
    left_small = rw e (lt_of_le_of_lt (shr_le (get_or marks b 0) k) small)

    pub bit_below : (j : ℕ) → T (has x j) → k + j < 64
    bit_below j t = has_below 64 (get_or marks b 0) (k + j) small (subst T (ap (λ (y : ℕ). has y j) e ∙ sym (has_add (get_or marks b 0) k j)) t)

    -- the zeros at the low end, and the bit above them
    module _ (positive : x ≡ 0 → ⊥) where
      pub gap_bit : T (has x (count_trailing_zeros 64 x))
      gap_bit = lowest_in 64 x left_small (omega (arith, positive))

      pub gap_below : k + count_trailing_zeros 64 x < 64
      gap_below = bit_below (count_trailing_zeros 64 x) gap_bit

      pub gap_none : NoneBetween (marked marks) (64 * b + k) (64 * b + k + count_trailing_zeros 64 x)
      gap_none s l h t =
          let i : 64 * b + k + (s - (64 * b + k)) ≡ s = omega arith in
          lowest_first 64 x (s - (64 * b + k)) (omega arith)
          (subst T (ap (marked marks) (sym i) ∙ bit_left (s - (64 * b + k)) (omega (arith, gap_below))) t)

      -- so it is the least mark from there on
      pub gap_first : b < 1024 → next_from (marked marks) (64 * b + k) ≡ 64 * b + k + count_trailing_zeros 64 x
      gap_first h =
          next_is (marked marks) (64 * b + k) (64 * b + k + count_trailing_zeros 64 x) (omega arith) (omega (arith, gap_below)) gap_none
          (subst T (sym (bit_left (count_trailing_zeros 64 x) gap_below)) gap_bit)

    -- the ones at the low end
    run_bit : (j : ℕ) → j < count_trailing_zeros 64 (full - x) → T (has x j)
    run_bit j l =
        go (has x j)
        (λ t. lowest_first 64 (full - x) j l (subst T (sym (has_not x j (omega (arith, left_small)) (omega (arith, trailing_le 64 (full - x))))) t))
      where
        go : (y : Bool) → (T (not y) → ⊥) → T y
        go true f = tt
        go false f = f tt

    pub run_below : k ≤ 64 → k + count_trailing_zeros 64 (full - x) ≤ 64
    run_below h = go (dec_lt 0 (count_trailing_zeros 64 (full - x)))
      where
        go : Dec (0 < count_trailing_zeros 64 (full - x)) → k + count_trailing_zeros 64 (full - x) ≤ 64
        go (yes p) =
            let l : count_trailing_zeros 64 (full - x) - 1 < count_trailing_zeros 64 (full - x) = omega arith in
            omega (arith, bit_below (count_trailing_zeros 64 (full - x) - 1) (run_bit (count_trailing_zeros 64 (full - x) - 1) l))
        go (no p) = omega arith

    pub run_all : (s : ℕ) → 64 * b + k ≤ s → s < 64 * b + k + count_trailing_zeros 64 (full - x) → T (marked marks s)
    run_all s l h =
        let i : 64 * b + k + (s - (64 * b + k)) ≡ s = omega arith in
        let t = run_bit (s - (64 * b + k)) (omega arith) in
        subst T (sym (bit_left (s - (64 * b + k)) (bit_below (s - (64 * b + k)) t)) ∙ ap (marked marks) i) t

-- there is one at least where the lowest bit is set
pub run_some : (x : ℕ) → x ≤ full → T (has x 0) → 0 < count_trailing_zeros 64 (full - x)
unfolding count_trailing_zeros
run_some x h t =
    let odd : x % 2 ≡ 1 = eqb→eq (x % 2) 1 (subst T (has_low x) t) in
    let even : (full - x) % 2 ≡ 0 = omega arith in
    rw even (omega arith)

-- a whole word
module _ (marks : List ℕ) (b : ℕ) where
  pub word_none : get_or marks b 0 ≡ 0 → NoneBetween (marked marks) (64 * b) (64 * (b + 1))
  word_none z = let i : 64 * b + 0 ≡ 64 * b = omega arith in rw i at (left_none marks b 0 (get_or marks b 0) (sym (div-one (get_or marks b 0))) z)

  pub word_first : get_or marks b 0 < 2 ^ 64 → (get_or marks b 0 ≡ 0 → ⊥) → b < 1024 → next_from (marked marks) (64 * b) ≡ 64 * b + count_trailing_zeros 64 (get_or marks b 0)
  word_first small p h =
      let i : 64 * b + 0 ≡ 64 * b = omega arith in
      rw i at (gap_first marks b 0 (get_or marks b 0) (sym (div-one (get_or marks b 0))) small p h)

-- the rest of the word of m, above m
module _ (marks : List ℕ) (m : ℕ) where
  rest_above : ℕ
  rest_above = get_or marks (m / 64) 0 / 2 ^ (m % 64) / 2 ^ 1

  rest_shift : rest_above ≡ get_or marks (m / 64) 0 / 2 ^ (m % 64 + 1)
  unfolding rest_above
  rest_shift = shr-shr (get_or marks (m / 64) 0) (m % 64) 1

  place_above : 64 * (m / 64) + (m % 64 + 1) ≡ m + 1
  place_above = omega arith

  pub above_none : get_or marks (m / 64) 0 / 2 ^ (m % 64) / 2 ^ 1 ≡ 0 → NoneBetween (marked marks) (m + 1) (64 * (m / 64 + 1))
  unfolding rest_above
  above_none z = rw place_above at (left_none marks (m / 64) (m % 64 + 1) rest_above rest_shift z)

  module _ (small : get_or marks (m / 64) 0 < 2 ^ 64) (p : get_or marks (m / 64) 0 / 2 ^ (m % 64) / 2 ^ 1 ≡ 0 → ⊥) where
    pub above_below : m % 64 + 1 + count_trailing_zeros 64 (get_or marks (m / 64) 0 / 2 ^ (m % 64) / 2 ^ 1) < 64
    unfolding rest_above
    above_below = gap_below marks (m / 64) (m % 64 + 1) rest_above rest_shift small p

    pub above_first : m < 65536 → next_from (marked marks) (m + 1) ≡ m + 1 + count_trailing_zeros 64 (get_or marks (m / 64) 0 / 2 ^ (m % 64) / 2 ^ 1)
    unfolding rest_above
    above_first h = rw place_above at (gap_first marks (m / 64) (m % 64 + 1) rest_above rest_shift small p (omega arith))
