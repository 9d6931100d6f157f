-- A head as digits of four bits: the place of the first digit that is in a set, one digit at a time; the digit at k, by a shift; and how many there
-- are. By computing, and by induction on their number. Assumes nothing.
use mathlib.Core.Path.{◌≡◌, refl, ap, ◌∙◌}
use mathlib.Core.Bool.{Bool, true, false, ◌||◌, not, cond}
use mathlib.Core.List.{List, [], ◌∷◌}
use Prim.Native.Nat.{ℕ, zero, suc, ◌+◌, ◌*◌, ◌/◌, ◌%◌, ◌^◌, ◌≤◌, ◌<◌}
use native.Mathlib.Omega.{arith}
use native.Mathlib.Nat.{div-eq_of_lt, lt_of_lt_of_le}
use native.Mathlib.Numerals.{add-one}
use lib.Dec.{eqb, eqb-suc-zero}
use lib.Pow.{pow_mono, shr-shr}
use lib.ListN.{get_or, length, get_or-eq_default}
use Rattle.atoms.specs.Atoms.{has}
use Rattle.lpod.specs.Lists.{some}
use Rattle.lpod.specs.Satisfied.{some_in}
use Rattle.lpod.specs.Degree.{place}
use Rattle.words.specs.Coded.{head_length, head_digits, digits, rule_in}

-- ---- the place of the first atom that is in s, the first atom a being there or not
module _ (s k : ℕ) {l rest : List ℕ} {a : ℕ} (e : l ≡ a ∷ rest) where
  pub place_go : has s a ≡ false → (k' : ℕ) → k' ≡ k + 1 → place k l s ≡ place k' rest s
  unfolding place
  place_go t k' ek = ap (λ (l : List ℕ). place k l s) e ∙ rw (t, ek, add-one)

  pub place_stop : has s a ≡ true → place k l s ≡ k
  unfolding place
  place_stop t = ap (λ (l : List ℕ). place k l s) e ∙ rw t

pub place_none : (s k : ℕ) {l : List ℕ} → l ≡ [] → place k l s ≡ 0
unfolding place
place_none s k e = ap (λ (l : List ℕ). place k l s) e

-- some atom is in s where the first such has a place
pub some_place : (l : List ℕ) (s k : ℕ) → some_in l s ≡ not (eqb (place (suc k) l s) 0)
unfolding some_in some place
some_place [] s k = refl
some_place (a ∷ l) s k = go (has s a) (some_place l s (suc k))
  where
    go : (b : Bool) → some_in l s ≡ not (eqb (place (suc (suc k)) l s) 0) → (b || some_in l s) ≡ not (eqb (cond b (suc k) (place (suc (suc k)) l s)) 0)
    go true e = rw (eqb-suc-zero k)
    go false e = e

-- ---- digits
pub digits_step : (n m h : ℕ) → n ≡ m + 1 → digits n h ≡ h % 16 ∷ digits m (h / 16)
unfolding digits
digits_step n m h e = ap (λ (n : ℕ). digits n h) (e ∙ add-one m)

pub digits_none : (n h : ℕ) → n ≡ 0 → digits n h ≡ []
unfolding digits
digits_none n h e = ap (λ (n : ℕ). digits n h) e

pub digits_length : (n h : ℕ) → length (digits n h) ≡ n
unfolding digits
digits_length zero h = refl
digits_length (suc n) h = ap suc (digits_length n (h / 16))

pub digits_at : (n h k : ℕ) → k < n → get_or (digits n h) k 0 ≡ h / 2 ^ (4 * k) % 16
unfolding digits
digits_at zero h k l = absurd (omega arith)
digits_at (suc n) h zero l = omega arith
digits_at (suc n) h (suc k) l = digits_at n (h / 16) k (omega arith) ∙ ap (λ (x : ℕ). x % 16) (shr-shr h 4 (4 * k) ∙ ap (λ (j : ℕ). h / 2 ^ j) (omega arith))

-- past the number of digits there is none; a head word has six
pub digits_past : (n h k : ℕ) → n ≤ k → get_or (digits n h) k 0 ≡ 0
digits_past n h k l = get_or-eq_default (digits n h) 0 (omega (arith, digits_length n h))

pub digits_high : (n h k : ℕ) → k < n → h < 2 ^ 24 → 6 ≤ k → get_or (digits n h) k 0 ≡ 0
digits_high n h k l b m =
    let e : 24 ≤ 4 * k = omega arith in
    digits_at n h k l ∙ ap (λ (x : ℕ). x % 16) (div-eq_of_lt (lt_of_lt_of_le b (pow_mono e)))

-- ---- the head atom at k of a row in its word: a digit of the head where there is one, else 0
module _ (row k : ℕ) where
  pub head_at : k < length (rule_in row).head → get_or (rule_in row).head k 0 ≡ row / 1099511627776 / 2 ^ (4 * k) % 16
  unfolding rule_in head_length head_digits
  head_at l = digits_at (row / 4294967296 % 256) (row / 1099511627776) k (omega (arith, digits_length (row / 4294967296 % 256) (row / 1099511627776)))

  pub head_past : length (rule_in row).head ≤ k → get_or (rule_in row).head k 0 ≡ 0
  head_past l = get_or-eq_default (rule_in row).head 0 l

  pub head_high : row < 2 ^ 64 → k < length (rule_in row).head → 6 ≤ k → get_or (rule_in row).head k 0 ≡ 0
  unfolding rule_in head_length head_digits
  head_high b l m =
      digits_high (row / 4294967296 % 256) (row / 1099511627776) k
      (omega (arith, digits_length (row / 4294967296 % 256) (row / 1099511627776))) (omega arith) m
