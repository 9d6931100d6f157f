-- The pick is none exactly where there is no answer set; otherwise it is a best set, and the lowest-numbered one. And every answer set that
-- is not best has a best one preferred to it. From the best_above argument over the inclusion order, and a rising list's first element
-- is its lowest. Assumes nothing.
use mathlib.Core.Path.{◌≡◌, refl, sym}
use mathlib.Core.Logic.{⊎_elim, ◌↔◌}
use mathlib.Core.List.Memᴰ
use mathlib.Core.List.{List, [], ◌∷◌, Memᴰ}
use mathlib.Core.Option.{some, none}
use Prim.Native.Nat.{ℕ, ◌^◌, ◌≤◌, ◌<◌}
use native.Mathlib.Omega.{arith}
use lib.Dec.{T}
use Rattle.atoms.proofs.Truth.{and_l, both}
use Rattle.lpod.specs.Lists.{Rising}
use Rattle.lpod.specs.Rule.{Program}
use Rattle.lpod.specs.Answer.{answer, answer_sets}
use Rattle.lpod.specs.Preferred.{preferred}
use Rattle.lpod.specs.Best.{none_over, first_of, best, best_sets, pick}
use Rattle.lpod.proofs.BestAbove.{best_above, has_best}
use Rattle.lpod.proofs.InclusionOrder.{preferred_irreflexive, preferred_transitive}
use Rattle.lpod.proofs.ListsExact.{answers_exact, bests_exact, bests_rise}

-- the first of a list: none where the list is empty; in a rising list the lowest
first_none : (l : List ℕ) → first_of l ≡ none → (x : ℕ) → Memᴰ x l → ⊥
unfolding first_of
first_none [] e x m = elim m [ ]
first_none (y ∷ l) e x m = let z : ◌≡◌ {A = ℕ} 0 1 = cc in absurd (omega arith)

none_first : (l : List ℕ) → ((x : ℕ) → Memᴰ x l → ⊥) → first_of l ≡ none
unfolding first_of
none_first [] f = refl
none_first (y ∷ l) f = absurd (f y (Memᴰ.head refl))

first_lowest : (l : List ℕ) → Rising l → (s : ℕ) → first_of l ≡ some s → Memᴰ s l × ((t : ℕ) → Memᴰ t l → s ≤ t)
unfolding first_of
first_lowest [] r s e = let z : ◌≡◌ {A = ℕ} 0 1 = cc in absurd (omega arith)
first_lowest (y ∷ l) r s e =
    let q : y ≡ s = cc in
    (Memᴰ.head (sym q), λ t m. ⊎_elim (λ h. omega arith) (λ n. let h = r.0 t n in omega arith) (Memᴰ.cases_cons m))

module _ (p : Program) where
  -- every answer set that is not best has a best one preferred to it
  pub best_above_answer : (s : ℕ) → s < 2 ^ p.atoms → T (answer p s) → (T (best p s) → ⊥) → (b : ℕ) × ((b < 2 ^ p.atoms) × T (best p b) × T (preferred p b s))
  unfolding best best_sets
  best_above_answer s l t n =
      let b = best_above (preferred p) (preferred_irreflexive p) (preferred_transitive p) (answer_sets p) s ((answers_exact p s).1 (l, t))
      (λ u. n (both (answer p s) (none_over (preferred p) (answer_sets p) s) t u)) in
      let e = (bests_exact p b.0).0 b.1.0 in
      (b.0, (e.0, e.1, b.1.1))

  -- no pick exactly where there is no answer set
  pub no_pick : (pick p ≡ none) ↔ ((s : ℕ) → s < 2 ^ p.atoms → T (answer p s) → ⊥)
  unfolding pick best_sets best
  no_pick = (
    (λ e s l t.
        let b = has_best (preferred p) (preferred_irreflexive p) (preferred_transitive p) (answer_sets p) s ((answers_exact p s).1 (l, t)) in
        first_none (best_sets p) e b.0 b.1),
    (λ f. none_first (best_sets p) (λ s m. f s ((bests_exact p s).0 m).0 (is_answer s ((bests_exact p s).0 m).1))),
  )
    where
      is_answer : (s : ℕ) → T (best p s) → T (answer p s)
      is_answer s t = and_l (answer p s) (none_over (preferred p) (answer_sets p) s) t

  -- otherwise the pick is best, and the lowest of the best
  pub pick_lowest : (s : ℕ) → pick p ≡ some s → (s < 2 ^ p.atoms) × T (best p s) × ((t : ℕ) → t < 2 ^ p.atoms → T (best p t) → s ≤ t)
  unfolding pick
  pick_lowest s e =
      let f = first_lowest (best_sets p) (bests_rise p) s e in
      let b = (bests_exact p s).0 f.0 in
      (b.0, b.1, λ t l u. f.1 t ((bests_exact p t).1 (l, u)))
