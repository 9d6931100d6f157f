-- A rule is missed where its body holds and its most wanted head atom is out. A set that is beaten misses every rule that the better one misses. So a
-- set that misses none is preferred to each that misses some, and nothing is preferred to it: where an answer set misses none, the best sets are just
-- the answer sets that miss none. Degree 1 decides: it is the first degree at which two sets are compared. Assumes nothing.
use mathlib.Core.Path.{◌≡◌, refl, sym, ap, ◌∙◌}
use mathlib.Core.Bool.{Bool, true, false, ◌&&◌, not, cond}
use mathlib.Core.Logic.{◌↔◌}
use mathlib.Core.List.{List, [], ◌∷◌, Memᴰ}
use Prim.Native.Nat.{ℕ, suc, ◌^◌, ◌≤◌, ◌<◌}
use native.Mathlib.Decide.{ℕ_discrete}
use native.Mathlib.Omega.{arith}
use lib.Dec.{T, T_not, not_T, eqb, eqb→eq}
use Rattle.atoms.specs.Atoms.{has}
use Rattle.atoms.proofs.Truth.{true_yes, false_no, no_false, same_yes}
use Rattle.lpod.specs.Lists.{keep}
use Rattle.lpod.specs.Rule.{Rule, Program, rules}
use Rattle.lpod.specs.Satisfied.{body_holds}
use Rattle.lpod.specs.Answer.{answer, answer_sets}
use Rattle.lpod.specs.Degree.{place, degree}
use Rattle.lpod.specs.Missed.{misses, all_first}
use Rattle.lpod.specs.Preferred.{preferred}
use Rattle.lpod.specs.Best.{none_over, best_of, best, best_sets}
use Rattle.lpod.proofs.Lists.{every_at, every_made, every_fails, keep_same}
use Rattle.lpod.proofs.InclusionOrder.{eq_yes, Preferred, preferred_says}
use Rattle.lpod.proofs.BestAbove.{none_says, says_none}
use Rattle.lpod.proofs.ListsExact.{answers_exact}

-- ---- one rule
-- a place after the first is not 1
place_later : (k : ℕ) (l : List ℕ) (s : ℕ) → 2 ≤ k → place k l s ≡ 1 → ⊥
unfolding place
place_later k [] s h e = omega arith
place_later k (a ∷ l) s h e = go (has s a) e (place_later (suc k) l s (omega arith))
  where
    go : (b : Bool) → cond b k (place (suc k) l s) ≡ 1 → (place (suc k) l s ≡ 1 → ⊥) → ⊥
    go true e ih = omega arith
    go false e ih = ih e

-- by its most wanted head atom
pub misses_says : (s : ℕ) (r : Rule) (a : ℕ) (l : List ℕ) → r.head ≡ a ∷ l → misses s r ≡ (body_holds r s && not (has s a))
unfolding misses degree place
misses_says s r a l e = ap (λ (h : List ℕ). not (eqb (cond (body_holds r s) (place 1 h s) 1) 1)) e ∙ go (body_holds r s) (has s a)
  where
    go : (b c : Bool) → not (eqb (cond b (cond c 1 (place 2 l s)) 1) 1) ≡ (b && not c)
    go true true = refl
    go true false = ap not (no_false (eqb (place 2 l s) 1) (λ t. place_later 2 l s (omega arith) (eqb→eq (place 2 l s) 1 t)))
    go false c = refl

module _ (s : ℕ) (r : Rule) where
  pub missed_not : T (misses s r) → degree s r ≡ 1 → ⊥
  unfolding misses
  missed_not t e = T_not (eqb (degree s r) 1) t (eq_yes (degree s r) 1 e)

  pub not_missed : (degree s r ≡ 1 → ⊥) → T (misses s r)
  unfolding misses
  not_missed n = not_T (eqb (degree s r) 1) (λ t. n (eqb→eq (degree s r) 1 t))

  pub hit_first : (T (misses s r) → ⊥) → degree s r ≡ 1
  hit_first n = go (ℕ_discrete (degree s r) 1)
    where
      go : Dec (degree s r ≡ 1) → degree s r ≡ 1
      go (yes e) = e
      go (no d) = absurd (n (not_missed d))

-- ---- all rules
module _ (P : List Rule) (s : ℕ) where
  hit : Rule → Bool
  hit r = not (misses s r)

  pub all_first_lem : T (all_first P s) ↔ ((r : Rule) → Memᴰ r P → degree s r ≡ 1)
  unfolding all_first hit
  all_first_lem = (
    (λ t r m. hit_first s r (T_not (misses s r) (every_at hit P t r m))),
    (λ f. every_made hit P (λ r m. not_T (misses s r) (λ t. missed_not s r t (f r m)))),
  )

  -- else some rule has another degree
  not_first : (T (all_first P s) → ⊥) → (r : Rule) × (Memᴰ r P × (degree s r ≡ 1 → ⊥))
  unfolding all_first hit
  not_first n = let x = every_fails hit P n in (x.0, (x.1.0, λ e. x.1.1 (not_T (misses s x.0) (λ t. missed_not s x.0 t e))))

-- ---- who is beaten misses as much
pub preferred_misses : (p : Program) (m s : ℕ) → T (preferred p m s) → (r : Rule) → Memᴰ r (rules p) → T (misses m r) → T (misses s r)
preferred_misses p m s t r i u = not_missed s r (λ e. missed_not m r u (first ((preferred_says p m s).0 t) e))
  where
    first : Preferred p m s → degree s r ≡ 1 → degree m r ≡ 1
    first x e = go (ℕ_discrete x.k 1)
      where
        go : Dec (x.k ≡ 1) → degree m r ≡ 1
        go (yes k) = x.part r i (e ∙ sym k) ∙ k
        go (no k) = (x.equal 1 (omega arith) (omega (arith, x.from))).0 r i e

module _ (p : Program) (M s : ℕ) where
  pub first_over : T (all_first (rules p) M) → (T (all_first (rules p) s) → ⊥) → T (preferred p M s)
  first_over t n =
      let f = (all_first_lem (rules p) M).0 t in
      let x = not_first (rules p) s n in
      (preferred_says p M s).1 (record {
        k = 1;
        from = omega arith;
        part = λ r m e. f r m;
        strict = λ w. x.1.1 (w x.0 x.1.0 (f x.0 x.1.0));
        equal = λ j l h. absurd (omega arith);
      })

  pub none_over_first : T (all_first (rules p) s) → T (preferred p M s) → ⊥
  none_over_first t o =
      let f = (all_first_lem (rules p) s).0 t in
      ((preferred_says p M s).0 o).strict (λ r m e. f r m ∙ sym (hit_first M r (λ u. missed_not s r (preferred_misses p M s o r m u) (f r m))) ∙ e)

-- ---- over any relation: those of a list that pass a test are preferred to all others of it, and none of it is preferred to them
pub record Tops {A : Type 0} (over : A → A → Bool) (first : A → Bool) (l : List A) : Type 0 where
  pub above : (x y : A) → Memᴰ x l → Memᴰ y l → T (first x) → (T (first y) → ⊥) → T (over x y)
  pub free : (x y : A) → Memᴰ x l → Memᴰ y l → T (first y) → T (over x y) → ⊥

-- then, where one passes it, the best of the list are just those that do
module _ {A : Type 0} (over : A → A → Bool) (first : A → Bool) (l : List A) (h : Tops over first l) (x : A) (m : Memᴰ x l) (t : T (first x)) where
  pub tops_none : (y : A) → Memᴰ y l → none_over over l y ≡ first y
  tops_none y i = same_yes (none_over over l y) (first y) (λ u. go u (first y) refl) (λ u. says_none over l y (λ z j v. h.free z y j i u v))
    where
      go : T (none_over over l y) → (b : Bool) → first y ≡ b → T (first y)
      go u true e = true_yes e
      go u false e = absurd (none_says over l y u x m (h.above x y m i t (false_no e)))

  pub tops_best : best_of over l ≡ keep first l
  unfolding best_of
  tops_best = keep_same (none_over over l) first l tops_none

pub preferred_tops : (p : Program) (l : List ℕ) → Tops (preferred p) (all_first (rules p)) l
preferred_tops p l = record { above = λ M s i j. first_over p M s; free = λ M s i j. none_over_first p M s }

-- ---- the best sets
module _ (p : Program) (M : ℕ) (l : M < 2 ^ p.atoms) (a : T (answer p M)) (t : T (all_first (rules p) M)) where
  first_none : (s : ℕ) → Memᴰ s (answer_sets p) → none_over (preferred p) (answer_sets p) s ≡ all_first (rules p) s
  first_none = tops_none (preferred p) (all_first (rules p)) (answer_sets p) (preferred_tops p (answer_sets p)) M ((answers_exact p M).1 (l, a)) t

  pub first_best : (s : ℕ) → s < 2 ^ p.atoms → best p s ≡ (answer p s && all_first (rules p) s)
  unfolding best
  first_best s k = go (answer p s) refl
    where
      go : (b : Bool) → answer p s ≡ b → (b && none_over (preferred p) (answer_sets p) s) ≡ (b && all_first (rules p) s)
      go true e = first_none s ((answers_exact p s).1 (k, true_yes e))
      go false e = refl

  pub first_best_sets : best_sets p ≡ keep (all_first (rules p)) (answer_sets p)
  unfolding best_sets
  first_best_sets = tops_best (preferred p) (all_first (rules p)) (answer_sets p) (preferred_tops p (answer_sets p)) M ((answers_exact p M).1 (l, a)) t
