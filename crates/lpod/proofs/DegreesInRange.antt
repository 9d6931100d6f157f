-- In an answer set every degree lies from 1 to the length of the head (1 where that is shorter), so from 1 to 6 where heads have at most six
-- atoms; the row of a raised atom has degree 1. An answer set satisfies its rows, so where a body holds some head atom is in it.
-- Assumes nothing.
use mathlib.Core.Path.{◌≡◌, refl, ap}
use mathlib.Core.Bool.{Bool, true, false, ◌||◌, cond}
use mathlib.Core.Logic.{◌⊎◌, inl, inr, ⊎_elim}
use mathlib.Core.List.Memᴰ
use mathlib.Core.List.{List, [], ◌∷◌, Memᴰ}
use Prim.Native.Nat.{ℕ, suc, ◌+◌, ◌≤◌, ◌<◌, max}
use native.Mathlib.Omega.{arith}
use lib.Dec.{T}
use lib.ListN.{length}
use Rattle.atoms.specs.Atoms.{has}
use Rattle.atoms.proofs.Truth.{imp_at, true_yes}
use Rattle.lpod.specs.Lists.{some, keep, below}
use Rattle.lpod.specs.Rule.{Rule, Program, rules, raised, fact, most_atoms}
use Rattle.lpod.specs.Satisfied.{some_in, body_holds, satisfies}
use Rattle.lpod.specs.Answer.{answer}
use Rattle.lpod.specs.Degree.{place, degree}
use Rattle.lpod.specs.Preferred.{longest}
use Rattle.lpod.proofs.Lists.{in_map}
use Rattle.lpod.proofs.AnswerParts.{answer_satisfies}

-- ---- places
place_from : (k : ℕ) (l : List ℕ) (s : ℕ) → T (some_in l s) → k ≤ place k l s
unfolding place some_in some
place_from k [] s t = absurd t
place_from k (a ∷ l) s t = go (has s a) t (place_from (suc k) l s)
  where
    go : (b : Bool) → T (b || some (has s) l) → (T (some (has s) l) → suc k ≤ place (suc k) l s) → k ≤ cond b k (place (suc k) l s)
    go true t ih = omega arith
    go false t ih = let h = ih t in omega arith

place_to : (k : ℕ) (l : List ℕ) (s : ℕ) → place k l s < k + length l ⊎ (place k l s ≡ 0)
unfolding place
place_to k [] s = inr refl
place_to k (a ∷ l) s = go (has s a) (place_to (suc k) l s)
  where
    go : (b : Bool) → place (suc k) l s < suc k + length l ⊎ (place (suc k) l s ≡ 0) → cond b k (place (suc k) l s) < k + suc (length l) ⊎ (cond b k (place (suc k) l s) ≡ 0)
    go true ih = inl (omega arith)
    go false ih = ⊎_elim (λ h. inl (omega arith)) (λ e. inr e) ih

-- ---- degrees
pub degree_from : (s : ℕ) (r : Rule) → T (satisfies s r) → 1 ≤ degree s r
unfolding degree satisfies
degree_from s r t = go (body_holds r s) refl (imp_at (body_holds r s) (some_in r.head s) t)
  where
    go : (b : Bool) → body_holds r s ≡ b → (T (body_holds r s) → T (some_in r.head s)) → 1 ≤ cond b (place 1 r.head s) 1
    go true e f = place_from 1 r.head s (f (true_yes e))
    go false e f = omega arith

pub degree_to : (s : ℕ) (r : Rule) → degree s r ≤ max 1 (length r.head)
unfolding degree
degree_to s r = go (body_holds r s) (place_to 1 r.head s)
  where
    go : (b : Bool) → place 1 r.head s < 1 + length r.head ⊎ (place 1 r.head s ≡ 0) → cond b (place 1 r.head s) 1 ≤ max 1 (length r.head)
    go true h = ⊎_elim (λ l. omega arith) (λ e. omega arith) h
    go false h = omega arith

-- no degree is above the longest head of the rules
pub degree_longest : (P : List Rule) (s : ℕ) (r : Rule) → Memᴰ r P → degree s r ≤ longest P
unfolding longest
degree_longest P s r m = let h = degree_to s r in let k = head_longest P m in omega arith
  where
    one_longest : (P : List Rule) → 1 ≤ longest P
    one_longest [] = omega arith
    one_longest (q ∷ P) = let h = one_longest P in omega arith

    head_longest : (P : List Rule) → Memᴰ r P → max 1 (length r.head) ≤ longest P
    head_longest [] m = elim m [ ]
    head_longest (q ∷ P) m =
        ⊎_elim (λ e. let h = ap (λ (x : Rule). length x.head) e in let k = one_longest P in omega arith) (λ n. let h = head_longest P n in omega arith) (Memᴰ.cases_cons m)

-- ---- in an answer set
module _ (p : Program) (s : ℕ) (t : T (answer p s)) where
  pub answer_degrees : (r : Rule) → Memᴰ r (rules p) → (1 ≤ degree s r) × (degree s r ≤ max 1 (length r.head))
  answer_degrees r m = (degree_from s r (answer_satisfies p s t r m), degree_to s r)

  pub added_degree : (r : Rule) → Memᴰ r (raised p.flags) → degree s r ≡ 1
  unfolding raised rules fact
  added_degree r m =
      let h = answer_degrees r (Memᴰ.append_right p.rows m) in
      let g = in_map fact (keep (has p.flags) (below most_atoms)) r m in
      let e : length r.head ≡ 1 = one g.0 g.1.1 in
      omega (arith, h.0, h.1)
    where
      one : (a : ℕ) → r ≡ fact a → length r.head ≡ 1
      one a e = ap (λ (x : Rule). length x.head) e

  pub degrees_to_six : ((r : Rule) → Memᴰ r p.rows → length r.head ≤ 6) → (r : Rule) → Memᴰ r (rules p) → (1 ≤ degree s r) × (degree s r ≤ 6)
  unfolding rules
  degrees_to_six six r m =
      let h = answer_degrees r m in
      ⊎_elim (λ n. let k = six r n in (h.0, omega (arith, h.1))) (λ n. let e = added_degree r n in (h.0, omega arith)) (Memᴰ.append_cases p.rows m)
