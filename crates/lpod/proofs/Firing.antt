-- What one row adds in a round, told by the tests that code makes; and what the rows of raised atoms add: the raised atoms that the set
-- holds. By computing, and by membership. Assumes nothing.
use mathlib.Core.Path.{◌≡◌, refl, sym, ap, ◌∙◌, subst}
use mathlib.Core.Bool.{Bool, true, false, ◌&&◌, cond}
use mathlib.Core.Logic.{◌⊎◌, inl, inr, ⊎_elim}
use mathlib.Core.List.Memᴰ
use mathlib.Core.List.{List, [], ◌∷◌, ◌++◌, Memᴰ}
use Prim.Native.Nat.{ℕ, zero, suc, ◌+◌, ◌-◌, ◌^◌, ◌≤◌, ◌<◌}
use native.Mathlib.Omega.{arith}
use lib.Dec.{T}
use lib.Bits.{bit_and, bit_or}
use lib.ListN.{get_or}
use Rattle.atoms.specs.Atoms.{has, insert, with_atom, union, common}
use Rattle.atoms.proofs.Truth.{and_l, and_r, both, or_l, or_r, or_cases, true_yes, yes_true, same_yes}
use Rattle.atoms.proofs.Bits.{has_and, has_or, has_below, of_insert, with_insert, same_atoms}
use Rattle.lpod.specs.Lists.{every, some, gather}
use Rattle.lpod.specs.Rule.{Rule, Program, fact, raised, rules}
use Rattle.lpod.specs.Satisfied.{all_in, some_in, none_in}
use Rattle.lpod.specs.Reduct.{Definite, reduct_row, reduct}
use Rattle.lpod.specs.Least.{fire}
use Rattle.lpod.specs.Degree.{place}
use Rattle.lpod.proofs.Lists.{in_gather, gather_in, gather_append}
use Rattle.lpod.proofs.LeastClosed.{fire_keeps, fire_adds}
use Rattle.lpod.proofs.FirstAtom.{first_in, ifs, row_first}
use Rattle.lpod.proofs.Between.{raised_row, row_raised}

-- ---- the first head atom in the set, by its place
place_low : (k : ℕ) (cs : List ℕ) (I : ℕ) → (place k cs I ≡ 0) ⊎ (k ≤ place k cs I)
unfolding place
place_low k [] I = inl refl
place_low k (c ∷ cs) I = go (has I c) (place_low (suc k) cs I)
  where
    go : (b : Bool) → (place (suc k) cs I ≡ 0) ⊎ (suc k ≤ place (suc k) cs I) → (cond b k (place (suc k) cs I) ≡ 0) ⊎ (k ≤ cond b k (place (suc k) cs I))
    go true h = inr (omega arith)
    go false h = ⊎_elim (λ e. inl e) (λ l. inr (omega arith)) h

pub no_place : (k : ℕ) (cs : List ℕ) (I : ℕ) → place (suc k) cs I ≡ 0 → first_in cs I ≡ []
unfolding place first_in
no_place k [] I e = refl
no_place k (c ∷ cs) I e = go (has I c) e (no_place (suc k) cs I)
  where
    go : (b : Bool) → cond b (suc k) (place (suc (suc k)) cs I) ≡ 0 → (place (suc (suc k)) cs I ≡ 0 → first_in cs I ≡ []) → cond b (c ∷ []) (first_in cs I) ≡ []
    go true e ih = absurd (omega arith)
    go false e ih = ih e

-- the atom at that place is the first, and is in the set
pub at_place : (k : ℕ) (cs : List ℕ) (I j : ℕ) → place (suc k) cs I ≡ suc k + j → (first_in cs I ≡ get_or cs j 0 ∷ []) × T (has I (get_or cs j 0))
unfolding place first_in
at_place k [] I j e = absurd (omega arith)
at_place k (c ∷ cs) I j e = go (has I c) refl j e (place_low (suc (suc k)) cs I) (at_place (suc k) cs I)
  where
    go : (b : Bool) → has I c ≡ b → (j : ℕ) → cond b (suc k) (place (suc (suc k)) cs I) ≡ suc k + j
        → (place (suc (suc k)) cs I ≡ 0) ⊎ (suc (suc k) ≤ place (suc (suc k)) cs I)
        → ((j : ℕ) → place (suc (suc k)) cs I ≡ suc (suc k) + j → (first_in cs I ≡ get_or cs j 0 ∷ []) × T (has I (get_or cs j 0)))
        → (cond b (c ∷ []) (first_in cs I) ≡ get_or (c ∷ cs) j 0 ∷ []) × T (has I (get_or (c ∷ cs) j 0))
    go true q zero e l ih = (refl, true_yes q)
    go true q (suc j) e l ih = absurd (omega arith)
    go false q zero e l ih = absurd (⊎_elim (λ z. omega arith) (λ m. omega arith) l)
    go false q (suc j) e l ih = ih j (omega arith)

-- ---- one row
-- rules that wait for one body add nothing
waiting : (l pos : List ℕ) (s t : ℕ) → all_in pos s ≡ false → fire (ifs l pos) s t ≡ t
unfolding fire ifs
waiting [] pos s t e = refl
waiting (c ∷ cs) pos s t e = ap (λ (b : Bool). fire (ifs cs pos) s (cond b (insert t c) t)) e ∙ waiting cs pos s t e

module _ (r : Rule) (I s t : ℕ) where
  given : fire (reduct_row r I) s t ≡ fire (cond (none_in r.neg I) (ifs (first_in r.head I) r.pos) []) s t
  given = ap (λ (D : List Definite). fire D s t) (row_first r I)

  module _ (n : Bool) (en : n ≡ some_in r.neg I) where
    -- a negative atom is in the set: the row has no rule
    pub fire_blocked : n ≡ true → t ≡ fire (reduct_row r I) s t
    unfolding none_in fire
    fire_blocked tn = sym (given ∙ rw (← en, tn))

    module _ (tn : n ≡ false) (p : Bool) (ep : p ≡ all_in r.pos s) where
      -- the positive body is not in s: the rule, if there is one, waits
      pub fire_waits : p ≡ false → t ≡ fire (reduct_row r I) s t
      unfolding none_in
      fire_waits tp = sym (given ∙ rw (← en, tn) (waiting (first_in r.head I) r.pos s t (sym ep ∙ tp)))

      module _ (tp : p ≡ true) (k : ℕ) (ek : k ≡ place 1 r.head I) where
        -- no head atom is in the set: the row has no rule
        pub fire_headless : k ≡ 0 → t ≡ fire (reduct_row r I) s t
        unfolding none_in fire ifs
        fire_headless z = sym (given ∙ rw (← en, tn, no_place 0 r.head I (sym ek ∙ z)))

        -- else it gives its atom
        pub fire_gives : (k ≡ 0 → ⊥) → I < 2 ^ 16 → (a : ℕ) → a ≡ get_or r.head (k - 1) 0 → with_atom t a ≡ fire (reduct_row r I) s t
        unfolding none_in fire ifs
        fire_gives z w a ea =
            let l : 1 ≤ k = omega arith in
            let first = at_place 0 r.head I (k - 1) (sym ek ∙ omega arith) in
            ap (with_atom t) ea ∙ with_insert t (get_or r.head (k - 1) 0) (has_below 16 I (get_or r.head (k - 1) 0) w first.1) ∙ sym (given ∙ rw (← en, tn, first.0, ← ep, tp))

-- ---- several rows
pub fire_append : (D E : List Definite) (s t : ℕ) → fire (D ++ E) s t ≡ fire E s (fire D s t)
unfolding fire
fire_append [] E s t = refl
fire_append (d ∷ D) E s t = fire_append D E s (cond (all_in d.body s) (insert t d.atom) t)

-- a pass over the rows: the row in front adds its part, and the rest goes on from there
pub fire_step : {P Q : List Rule} {r : Rule} (I s t u : ℕ) → P ≡ r ∷ Q → u ≡ fire (reduct_row r I) s t → fire (reduct P I) s t ≡ fire (reduct Q I) s u
unfolding reduct gather
fire_step {P} {Q} {r} I s t u e h =
    ap (λ (P : List Rule). fire (reduct P I) s t) e ∙ fire_append (reduct_row r I) (gather (λ x. reduct_row x I) Q) s t ∙ ap (fire (reduct Q I) s) (sym h)

pub fire_none : {P : List Rule} (I s t : ℕ) → P ≡ [] → fire (reduct P I) s t ≡ t
unfolding reduct gather fire
fire_none I s t e = ap (λ (P : List Rule). fire (reduct P I) s t) e

-- what is in the set after a round was there, or is the atom of a rule whose body holds
pub fire_from : (D : List Definite) (s t i : ℕ) → T (has (fire D s t) i) → T (has t i) ⊎ ((d : Definite) × (Memᴰ d D × T (all_in d.body s) × (i ≡ d.atom)))
unfolding fire
fire_from [] s t i h = inl h
fire_from (d ∷ D) s t i h =
    ⊎_elim (λ u. go (all_in d.body s) refl u) (λ f. inr (f.0, (Memᴰ.tail f.1.0, f.1.1, f.1.2))) (fire_from D s (cond (all_in d.body s) (insert t d.atom) t) i h)
  where
    go : (b : Bool) → all_in d.body s ≡ b → T (has (cond b (insert t d.atom) t) i)
        → T (has t i) ⊎ ((e : Definite) × (Memᴰ e (d ∷ D) × T (all_in e.body s) × (i ≡ e.atom)))
    go true q u = ⊎_elim (λ x. inl x) (λ e. inr (d, (Memᴰ.head refl, true_yes q, e))) (of_insert t d.atom i u)
    go false q u = inl u

-- the row of a raised atom has its rule in the reduct where the set holds the atom
fact_row : (a I : ℕ) → reduct_row (fact a) I ≡ cond (has I a) (record { atom = a; body = [] } ∷ []) []
unfolding fact none_in some_in some first_in ifs
fact_row a I = row_first (fact a) I ∙ go (has I a)
  where
    go : (b : Bool) → ifs (cond b (a ∷ []) []) [] ≡ cond b (record { atom = a; body = [] } ∷ []) []
    go true = refl
    go false = refl

fact_in : (a I : ℕ) (d : Definite) → Memᴰ d (reduct_row (fact a) I) → (d.atom ≡ a) × T (has I a)
fact_in a I d m = go (has I a) refl (subst (λ (D : List Definite). Memᴰ d D) (fact_row a I) m)
  where
    go : (b : Bool) → has I a ≡ b → Memᴰ d (cond b (record { atom = a; body = [] } ∷ []) []) → (d.atom ≡ a) × T (has I a)
    go true q n = ⊎_elim (λ e. (ap (λ (x : Definite). x.atom) e, true_yes q)) (λ i. elim i [ ]) (Memᴰ.cases_cons n)
    go false q n = elim n [ ]

pub fire_raised : (f I s t : ℕ) → f < 2 ^ 16 → fire (reduct (raised f) I) s t ≡ union t (common f I)
unfolding reduct all_in every
fire_raised f I s t w = same_atoms (fire D s t) (bit_or t (bit_and f I)) (λ i. same_yes (has (fire D s t) i) (has (bit_or t (bit_and f I)) i) (to i) (from i))
  where
    D : List Definite
    D = gather (λ r. reduct_row r I) (raised f)

    in_both : (i : ℕ) → T (has t i) ⊎ T (has f i && has I i) → T (has (bit_or t (bit_and f I)) i)
    in_both i h =
        subst T (sym (has_or t (bit_and f I) i))
        (⊎_elim (λ x. or_l (has t i) (has (bit_and f I) i) x) (λ x. or_r (has t i) (has (bit_and f I) i) (subst T (sym (has_and f I i)) x)) h)

    to : (i : ℕ) → T (has (fire D s t) i) → T (has (bit_or t (bit_and f I)) i)
    to i h =
        in_both i
        (⊎_elim (λ x. inl x)
        (λ x.
        let g = in_gather (λ r. reduct_row r I) (raised f) x.0 x.1.0 in
        let u = row_raised f g.0 g.1.0 in
        let v = fact_in u.0 I x.0 (subst (λ (r : Rule). Memᴰ x.0 (reduct_row r I)) u.1.0 g.1.1) in
        let e : i ≡ u.0 = x.1.2 ∙ v.0 in
        inr (subst (λ (a : ℕ). T (has f a && has I a)) (sym e) (both (has f u.0) (has I u.0) u.1.1 v.1)))
        (fire_from D s t i h))

    gives : (i : ℕ) → T (has f i) → T (has I i) → T (has (fire D s t) i)
    gives i p q =
        fire_adds D s t (record { atom = i; body = [] })
        (gather_in (λ r. reduct_row r I) (raised f) (fact i) (record { atom = i; body = [] }) (raised_row f i w p)
        (subst (λ (E : List Definite). Memᴰ (record { atom = i; body = [] }) E) (sym (fact_row i I ∙ ap (λ (b : Bool). cond b (record { atom = i; body = [] } ∷ []) []) (yes_true (has I i) q))) (Memᴰ.head refl)))
        (none s)
      where
        none : (s : ℕ) → T (all_in [] s)
        none s = tt

    from : (i : ℕ) → T (has (bit_or t (bit_and f I)) i) → T (has (fire D s t) i)
    from i h =
        ⊎_elim (λ x. fire_keeps D s t i x)
        (λ x. let y = subst T (has_and f I i) x in gives i (and_l (has f i) (has I i) y) (and_r (has f i) (has I i) y))
        (or_cases (has t i) (has (bit_and f I) i) (subst T (has_or t (bit_and f I) i) h))

-- the rows of a program: the page's, then those of the raised atoms
pub fire_rules : (p : Program) (I s t u : ℕ) → p.flags < 2 ^ 16 → u ≡ fire (reduct p.rows I) s t → union u (common p.flags I) ≡ fire (reduct (rules p) I) s t
unfolding rules reduct
fire_rules p I s t u w e =
    rw e (sym (ap (λ (D : List Definite). fire D s t) (gather_append (λ r. reduct_row r I) p.rows (raised p.flags))
    ∙ fire_append (gather (λ r. reduct_row r I) p.rows) (gather (λ r. reduct_row r I) (raised p.flags)) s t
    ∙ fire_raised p.flags I s (fire (gather (λ r. reduct_row r I) p.rows) s t) w))
