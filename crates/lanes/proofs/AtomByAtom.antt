-- The atoms of a set one after the other, the lowest first. Assumes nothing.
use mathlib.Core.Path.{◌≡◌, refl, sym, ap, ◌∙◌, subst}
use mathlib.Core.Bool.{Bool, true, false, ◌&&◌, not, cond, and-true}
use mathlib.Core.List.{List, [], ◌∷◌, Memᴰ}
use Prim.Native.Nat.{ℕ, zero, suc, ◌+◌, ◌-◌, ◌*◌, ◌/◌, ◌%◌, ◌^◌, ◌≤◌, ◌<◌}
use native.Mathlib.Nat.{mod-lt, zero-lt-suc, pow-suc}
use native.Mathlib.Decide.{ℕ_discrete}
use native.Mathlib.Omega.{arith}
use lib.Bits.{bit_and}
use lib.Count.{count_trailing_zeros, under}
use lib.Dec.{T, eqb, eqb→eq, eqb-suc-zero, eqb-suc-suc}
use borrow.Author.Tests.{eq-eqb, ne_eqb}
use Rattle.atoms.specs.Atoms.{has, lowest}
use Rattle.atoms.proofs.Truth.{yes_true, no_false, same_yes, true_yes}
use Rattle.atoms.proofs.Bits.{has_and, has_low, has_next, has_below}
use Rattle.atoms.proofs.Count.{lowest_in, lowest_first}
use Rattle.lpod.specs.Lists.{some, keep, numbers, below}
use Rattle.lpod.proofs.Lists.{some_at, some_made, keep_same, keep_in, in_keep, in_numbers, numbers_in}
use Rattle.words.specs.Coded.{atoms_in}

twice : (b : Bool) → (b && b) ≡ (b && true)
twice true = refl
twice false = refl

-- ---- a number and the one before it have the same bits above the lowest that is set, and below it only the one before has any
abbrev Shared : ℕ → ℕ → ℕ → Type 0
Shared p a i = (has p i && has (p - 1) i) ≡ (has p i && not (eqb i a))

shared : (k p : ℕ) → p < 2 ^ k → 0 < p → (i : ℕ) → Shared p (count_trailing_zeros k p) i
unfolding count_trailing_zeros
shared zero p h z i = absurd (omega arith)
shared (suc k) p h z i =
    go (p % 2) refl (mod-lt p (zero-lt-suc 1)) i
    (λ e j. let q : p < 2 ^ k * 2 = rw (← pow-suc 2 k) h in shared k (p / 2) (omega arith) (omega arith) j)
  where
    go : (d : ℕ) → p % 2 ≡ d → d < 2 → (i : ℕ) → (p % 2 ≡ 0 → (j : ℕ) → Shared (p / 2) (count_trailing_zeros k (p / 2)) j) → Shared p (under d (count_trailing_zeros k (p / 2))) i
    go zero e l zero ih = rw (has_low p, e)
    go zero e l (suc i) ih =
        let d : (p - 1) / 2 ≡ p / 2 - 1 = omega arith in
        rw (has_next p i, has_next (p - 1) i, d, eqb-suc-suc i (count_trailing_zeros k (p / 2))) (ih e i)
    go (suc zero) e l zero ih = let d : (p - 1) % 2 ≡ 0 = omega arith in rw (has_low (p - 1), d)
    go (suc zero) e l (suc i) ih =
        let d : (p - 1) / 2 ≡ p / 2 = omega arith in
        rw (has_next p i, has_next (p - 1) i, d, eqb-suc-zero i) (twice (has (p / 2) i))
    go (suc (suc d)) e l i ih = absurd (omega arith)

-- ---- the lowest atom of a set that is not empty, and the set without it, as the code takes it out
module _ (p : ℕ) (h : p < 65536) (z : p ≡ 0 → ⊥) (a : ℕ) (e : a ≡ lowest p) where
  abbrev rest : ℕ
  rest = bit_and p (p - 1)

  lowest_has : T (has p a)
  lowest_has = subst (λ (x : ℕ). T (has p x)) (sym e) (lowest_in 16 p h (omega arith))

  rest_has : (i : ℕ) → has rest i ≡ (has p i && not (eqb i a))
  rest_has i = has_and p (p - 1) i ∙ shared 16 p h (omega arith) i ∙ ap (λ (x : ℕ). has p i && not (eqb i x)) (sym e)

  rest_other : (i : ℕ) → (i ≡ a → ⊥) → has p i ≡ has rest i
  rest_other i n = sym (rest_has i ∙ rw (ne_eqb i a n) (and-true (has p i)))

  kept : (n i : ℕ) → i ≤ a → a < i + n → keep (has p) (numbers i n) ≡ a ∷ keep (has rest) (numbers i n)
  unfolding keep numbers
  kept zero i l m = absurd (omega arith)
  kept (suc n) i l m = go (ℕ_discrete i a) (λ d. kept n (suc i) (omega arith) (omega arith))
    where
      go : Dec (i ≡ a) → ((i ≡ a → ⊥) → keep (has p) (numbers (suc i) n) ≡ a ∷ keep (has rest) (numbers (suc i) n))
          → cond (has p i) (i ∷ keep (has p) (numbers (suc i) n)) (keep (has p) (numbers (suc i) n))
          ≡ a ∷ cond (has rest i) (i ∷ keep (has rest) (numbers (suc i) n)) (keep (has rest) (numbers (suc i) n))
      go (yes q) ih =
          let t : has p i ≡ true = ap (has p) q ∙ yes_true (has p a) lowest_has in
          let f : has rest i ≡ false = rest_has i ∙ rw (t, eq-eqb i a q) in
          let s = keep_same (has p) (has rest) (numbers (suc i) n) (λ x m. rest_other x (λ r. let b = (in_numbers (suc i) n x m).0 in omega arith)) in
          rw (t, f, s, q)
      go (no d) ih =
          let f : has p i ≡ false = no_false (has p i) (λ t. lowest_first 16 p i (omega (arith, e)) t) in
          let g : has rest i ≡ false = sym (rest_other i d) ∙ f in
          rw (f, g) (ih d)

  pub first_member : atoms_in p ≡ a ∷ atoms_in rest
  unfolding atoms_in
  first_member = kept 16 0 (omega arith) (has_below 16 p a h lowest_has)

pub no_member : (p : ℕ) → p ≡ 0 → atoms_in p ≡ []
unfolding atoms_in keep has numbers
no_member p e = ap atoms_in e

-- ---- a list of them has atoms only, and those of the set
pub member_small : (p a : ℕ) (l : List ℕ) → atoms_in p ≡ a ∷ l → a < 16
unfolding atoms_in
member_small p a l e = (in_numbers 0 16 a (in_keep (has p) (below 16) a (subst (Memᴰ a) (sym e) (Memᴰ.head refl))).0).1

pub member : (p a : ℕ) → a < 16 → has p a ≡ some (λ i. eqb a i) (atoms_in p)
unfolding atoms_in
member p a l =
    same_yes (has p a) (some (λ i. eqb a i) (keep (has p) (below 16)))
    (λ t. some_made (λ i. eqb a i) (keep (has p) (below 16)) a (keep_in (has p) (below 16) a (numbers_in 0 16 a (omega arith) (omega arith)) t) (true_yes (eq-eqb a a refl)))
    (λ t. let x = some_at (λ i. eqb a i) (keep (has p) (below 16)) t in subst (λ (i : ℕ). T (has p i)) (sym (eqb→eq a x.0 x.1.1)) (in_keep (has p) (below 16) x.0 x.1.0).1)
