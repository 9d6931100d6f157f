-- The rounds reach the least closed set, whatever the rules: it is closed, and inside every closed set. A round stays inside each closed
-- set. A round that adds something brings in the atom of a rule whose atom was not in, so after as many rounds as rules nothing is left
-- to add. Assumes nothing.
use mathlib.Core.Path.{◌≡◌, refl, sym, ap, ◌∙◌, subst}
use mathlib.Core.Bool.{Bool, true, false, ◌||◌, not, cond}
use mathlib.Core.Logic.{◌⊎◌, inl, inr, ⊎_elim, ◌↔◌}
use mathlib.Core.List.Memᴰ
use mathlib.Core.List.{List, [], ◌∷◌, Memᴰ}
use Prim.Native.Nat.{ℕ, zero, suc, ◌+◌, ◌≤◌, ◌<◌}
use native.Mathlib.Omega.{arith}
use lib.Dec.{T}
use lib.ListN.{length}
use Rattle.atoms.specs.Atoms.{has, insert, Inside}
use Rattle.atoms.proofs.Truth.{imp, imp_at, or_r, false_no, true_yes}
use Rattle.atoms.proofs.Bits.{has_zero, in_insert, at_insert, of_insert, inside_both}
use Rattle.lpod.specs.Lists.{keep}
use Rattle.lpod.specs.Satisfied.{all_in}
use Rattle.lpod.specs.Reduct.{Definite}
use Rattle.lpod.specs.Least.{closed, fire, rounds, least, Closed, IsLeast}
use Rattle.lpod.proofs.Lists.{every_at, every_made, every_fails, keep_strict, keep_all}

-- closed, as it is tested and as it is said
pub closed_says : (D : List Definite) (s : ℕ) → T (closed D s) ↔ Closed D s
unfolding closed
closed_says D s = (
  (λ t d m h. imp_at (all_in d.body s) (has s d.atom) (every_at (λ e. not (all_in e.body s) || has s e.atom) D t d m) h),
  (λ k. every_made (λ e. not (all_in e.body s) || has s e.atom) D (λ d m. imp (all_in d.body s) (has s d.atom) (k d m))),
)

-- what all of a list are in, they are in a larger set
pub all_mono : (l : List ℕ) (s t : ℕ) → Inside s t → T (all_in l s) → T (all_in l t)
unfolding all_in
all_mono l s t f h = every_made (has t) l (λ a m. f a (every_at (has s) l h a m))

-- ---- one round
-- it keeps what it starts with
pub fire_keeps : (D : List Definite) (s t : ℕ) → Inside t (fire D s t)
unfolding fire
fire_keeps [] s t i h = h
fire_keeps (d ∷ D) s t i h = fire_keeps D s (cond (all_in d.body s) (insert t d.atom) t) i (go (all_in d.body s))
  where
    go : (b : Bool) → T (has (cond b (insert t d.atom) t) i)
    go true = in_insert t d.atom i h
    go false = h

-- it adds the atom of each rule whose body holds
pub fire_adds : (D : List Definite) (s t : ℕ) (d : Definite) → Memᴰ d D → T (all_in d.body s) → T (has (fire D s t) d.atom)
unfolding fire
fire_adds [] s t d m h = elim m [ ]
fire_adds (e ∷ D) s t d m h =
    ⊎_elim
    (λ p. fire_keeps D s (cond (all_in e.body s) (insert t e.atom) t) d.atom (go (all_in e.body s) (subst (λ (x : Definite). T (all_in x.body s)) p h) p))
    (λ n. fire_adds D s (cond (all_in e.body s) (insert t e.atom) t) d n h)
    (Memᴰ.cases_cons m)
  where
    go : (b : Bool) → T b → d ≡ e → T (has (cond b (insert t e.atom) t) d.atom)
    go true u p = subst (λ (x : Definite). T (has (insert t e.atom) x.atom)) (sym p) (at_insert t e.atom)
    go false u p = absurd u

-- from inside a closed set it stays inside
pub fire_inside : (D : List Definite) (s t c : ℕ) → Closed D c → Inside s c → Inside t c → Inside (fire D s t) c
unfolding fire
fire_inside [] s t c k f g = g
fire_inside (d ∷ D) s t c k f g =
    fire_inside D s (cond (all_in d.body s) (insert t d.atom) t) c (λ e m. k e (Memᴰ.tail m)) f
    (go (all_in d.body s) (λ h. k d (Memᴰ.head refl) (all_mono d.body s c f h)))
  where
    go : (b : Bool) → (T b → T (has c d.atom)) → Inside (cond b (insert t d.atom) t) c
    go true u i h = ⊎_elim (λ x. g i x) (λ p. subst (λ (n : ℕ). T (has c n)) (sym p) (u tt)) (of_insert t d.atom i h)
    go false u i h = g i h

-- nothing is left to add exactly where the set is closed
pub closed_fixed : (D : List Definite) (s : ℕ) → Closed D s → fire D s s ≡ s
closed_fixed D s k = inside_both (fire D s s) s (fire_inside D s s s k (λ i h. h) (λ i h. h)) (fire_keeps D s s)

pub fixed_closed : (D : List Definite) (s : ℕ) → fire D s s ≡ s → Closed D s
fixed_closed D s e d m h = subst (λ (x : ℕ). T (has x d.atom)) e (fire_adds D s s d m h)

-- ---- the rounds
pub rounds_inside : (n : ℕ) (D : List Definite) (s c : ℕ) → Closed D c → Inside s c → Inside (rounds n D s) c
unfolding rounds
rounds_inside zero D s c k f = f
rounds_inside (suc n) D s c k f = rounds_inside n D (fire D s s) c k (fire_inside D s s c k f f)

pub empty_inside : (s : ℕ) → Inside 0 s
empty_inside s i h = absurd (false_no (has_zero i) h)

stays : (n : ℕ) (D : List Definite) (s : ℕ) → fire D s s ≡ s → rounds n D s ≡ s
unfolding rounds
stays zero D s e = refl
stays (suc n) D s e = ap (λ (x : ℕ). rounds n D x) e ∙ stays n D s e

-- how many rules have their atom in s
reached : List Definite → ℕ → ℕ
reached D s = length (keep (λ d. has s d.atom) D)

-- a round from a set that is not closed brings in the atom of one more rule
grows : (D : List Definite) (s : ℕ) → (T (closed D s) → ⊥) → reached D s < reached D (fire D s s)
unfolding reached closed
grows D s n =
    let r = every_fails (λ d. not (all_in d.body s) || has s d.atom) D n in
    let d = r.0 in
    keep_strict (λ e. has s e.atom) (λ e. has (fire D s s) e.atom) (λ e t. fire_keeps D s s e.atom t) D d r.1.0
    (fire_adds D s s d r.1.0 (holds (all_in d.body s) (has s d.atom) r.1.1))
    (λ t. r.1.1 (or_r (not (all_in d.body s)) (has s d.atom) t))
  where
    holds : (a b : Bool) → (T (not a || b) → ⊥) → T a
    holds true b f = tt
    holds false b f = f tt

reach : (n : ℕ) (D : List Definite) (s : ℕ) → Closed D (rounds n D s) ⊎ (n + reached D s ≤ reached D (rounds n D s))
unfolding rounds
reach zero D s = inr (omega arith)
reach (suc n) D s = go (closed D s) refl (reach n D (fire D s s))
  where
    go : (b : Bool) → closed D s ≡ b → Closed D (rounds n D (fire D s s)) ⊎ (n + reached D (fire D s s) ≤ reached D (rounds n D (fire D s s)))
        → Closed D (rounds n D (fire D s s)) ⊎ (suc n + reached D s ≤ reached D (rounds n D (fire D s s)))
    go true e r =
        let k : Closed D s = (closed_says D s).0 (true_yes e) in
        inl (subst (λ (x : ℕ). Closed D x) (sym (stays (suc n) D s (closed_fixed D s k))) k)
    go false e r = ⊎_elim (λ k. inl k) (λ l. inr (let g = grows D s (false_no e) in omega arith)) r

pub least_closed : (D : List Definite) → Closed D (least D)
unfolding least reached
least_closed D =
    ⊎_elim (λ k. k) (λ l d m h. keep_all (λ e. has (rounds (length D) D 0) e.atom) D (omega arith) d m) (reach (length D) D 0)

pub least_inside : (D : List Definite) (c : ℕ) → Closed D c → Inside (least D) c
unfolding least
least_inside D c k = rounds_inside (length D) D 0 c k (empty_inside c)

-- the computed set is the least closed one, and there is no other
pub is_least : (D : List Definite) (s : ℕ) → (least D ≡ s) ↔ IsLeast D s
is_least D s = (
  (λ e. subst (λ (x : ℕ). IsLeast D x) e (record { itself = least_closed D; smallest = least_inside D })),
  (λ l. inside_both (least D) s (least_inside D s l.itself) (l.smallest (least D) (least_closed D))),
)

-- rounds from the empty set that have come to a closed set have come to the least
pub closed_least : (n : ℕ) (D : List Definite) → Closed D (rounds n D 0) → least D ≡ rounds n D 0
closed_least n D k = (is_least D (rounds n D 0)).1 (record { itself = k; smallest = λ c h. rounds_inside n D 0 c h (empty_inside c) })
