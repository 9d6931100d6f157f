-- The rounds that add something are the first ones, `chain` of them, and there are no others. They come to the least closed set. Each brings in a
-- new atom and the atom of a new rule, so they are no more than the atoms of that set, nor than the rules. For a program: no more than the atoms
-- of the set, nor than the rows and the raised atoms together. Assumes nothing.
use mathlib.Core.Path.{◌≡◌, refl, sym, ap, ◌∙◌, subst}
use mathlib.Core.Bool.{Bool, true, false, not, cond}
use mathlib.Core.Logic.{◌⊎◌, inl, inr, ⊎_elim, ◌↔◌}
use mathlib.Core.List.{List, [], ◌∷◌, ◌++◌}
use Prim.Native.Nat.{ℕ, zero, suc, ◌+◌, ◌-◌, ◌/◌, ◌%◌, ◌≤◌, ◌<◌}
use native.Mathlib.Nat.{lt_of_not-le}
use native.Mathlib.Decide.{ℕ_discrete}
use native.Mathlib.Omega.{arith}
use lib.Dec.{T}
use lib.Count.{ones_step}
use lib.ListN.{length, length-append, length-map}
use borrow.Author.Tests.{eqb-true, eq-eqb, ne_eqb}
use Rattle.atoms.specs.Atoms.{has, Inside, how_many}
use Rattle.atoms.proofs.Truth.{true_yes, false_no}
use Rattle.atoms.proofs.Bits.{has_low, has_next}
use Rattle.atoms.proofs.Count.{many_mono, many_more}
use Rattle.lpod.specs.Lists.{every, some, keep, gather, numbers, below}
use Rattle.lpod.specs.Rule.{Program, fact, raised, rules}
use Rattle.lpod.specs.Satisfied.{all_in, some_in, none_in}
use Rattle.lpod.specs.Reduct.{Definite, reduct_head, reduct_row, reduct}
use Rattle.lpod.specs.Least.{fire, rounds, least}
use Rattle.lpod.specs.Chain.{adds, chain, chain_to}
use Rattle.lpod.proofs.LeastClosed.{fire_keeps, fixed_closed, closed_fixed, least_closed, least_inside, closed_least}
use Rattle.lpod.proofs.FirstAtom.{reduct_length}
use Rattle.lpod.proofs.ReductIsHereThere.{self_closed}

-- one round more
pub rounds_next : (n : ℕ) (D : List Definite) (s : ℕ) → rounds (suc n) D s ≡ fire D (rounds n D s) (rounds n D s)
unfolding rounds
rounds_next zero D s = refl
rounds_next (suc n) D s = rounds_next n D (fire D s s)

-- where a test passes for the numbers below n alone, so many of the numbers from i on pass it
first_ones : (p : ℕ → Bool) (n : ℕ) → ((k : ℕ) → k < n → T (p k)) → ((k : ℕ) → n ≤ k → T (p k) → ⊥)
    → (i m : ℕ) → n ≤ i + m → length (keep p (numbers i m)) ≡ n - i
unfolding keep numbers
first_ones p n f g i zero h = omega arith
first_ones p n f g i (suc m) h = go (p i) refl (first_ones p n f g (suc i) m (omega arith))
  where
    go : (b : Bool) → p i ≡ b → length (keep p (numbers (suc i) m)) ≡ n - suc i
        → length (cond b (i ∷ keep p (numbers (suc i) m)) (keep p (numbers (suc i) m))) ≡ n - i
    go true e ih = let l = lt_of_not-le (λ x. g i x (true_yes e)) in omega arith
    go false e ih = let l : n < suc i = lt_of_not-le (λ x. false_no e (f i x)) in omega arith

module _ (D : List Definite) where
  -- round n adds nothing
  abbrev pub Quiet : ℕ → Type 0
  Quiet n = rounds (suc n) D 0 ≡ rounds n D 0

  -- each of the first n adds something
  abbrev pub Each : ℕ → Type 0
  Each n = (k : ℕ) → k < n → T (adds D k)

  adds_more : (n : ℕ) → T (adds D n) → Quiet n → ⊥
  unfolding adds
  adds_more n t q = subst (λ (b : Bool). T (not b)) (eq-eqb _ _ q) t

  more_adds : (n : ℕ) → (Quiet n → ⊥) → T (adds D n)
  unfolding adds
  more_adds n f = subst (λ (b : Bool). T (not b)) (sym (ne_eqb _ _ f)) tt

  -- one more that adds something
  pub one_more : (n : ℕ) → Each n → (Quiet n → ⊥) → Each (suc n)
  one_more n f d k l = at (ℕ_discrete k n)
    where
      at : Dec (k ≡ n) → T (adds D k)
      at (yes e) = subst (λ (j : ℕ). T (adds D j)) (sym e) (more_adds n d)
      at (no e) = f k (omega arith)

  -- after a quiet round nothing changes any more
  quiet_on : (n : ℕ) → Quiet n → (k : ℕ) → n ≤ k → rounds k D 0 ≡ rounds n D 0
  quiet_on n q zero l = ap (λ (j : ℕ). rounds j D 0) (omega arith)
  quiet_on n q (suc k) l = go (ℕ_discrete n (suc k)) (quiet_on n q k)
    where
      go : Dec (n ≡ suc k) → (n ≤ k → rounds k D 0 ≡ rounds n D 0) → rounds (suc k) D 0 ≡ rounds n D 0
      go (yes e) ih = ap (λ (j : ℕ). rounds j D 0) (sym e)
      go (no e) ih = rounds_next k D 0 ∙ ap (λ (x : ℕ). fire D x x) (ih (omega arith)) ∙ sym (rounds_next n D 0) ∙ q

  quiet_later : (n : ℕ) → Quiet n → (k : ℕ) → n ≤ k → T (adds D k) → ⊥
  quiet_later n q k l t = adds_more k t (quiet_on n q (suc k) (omega arith) ∙ sym (quiet_on n q k l))

  quiet_end : Quiet (length D)
  unfolding least
  quiet_end = rounds_next (length D) D 0 ∙ closed_fixed D (least D) (least_closed D)

  -- the first n rounds add something, and the next does not
  pub record Ends (n : ℕ) : Type 0 where
    pub first : Each n
    pub next : Quiet n

  found : (m : ℕ) → ((n : ℕ) × Ends n) ⊎ Each m
  found zero = inr (λ k l. absurd (omega arith))
  found (suc m) = ⊎_elim (λ r. inl r) (λ f. go (ℕ_discrete (rounds (suc m) D 0) (rounds m D 0)) f) (found m)
    where
      go : Dec (Quiet m) → Each m → ((n : ℕ) × Ends n) ⊎ Each (suc m)
      go (yes q) f = inl (m, record { first = f; next = q })
      go (no d) f = inr (one_more m f d)

  ended : (n : ℕ) × Ends n
  ended = ⊎_elim (λ r. r) (λ f. (length D, record { first = f; next = quiet_end })) (found (length D))

  few : (n : ℕ) → Ends n → n ≤ length D
  few n e =
      let l : n < suc (length D) = lt_of_not-le (λ l. adds_more (length D) (e.first (length D) l) quiet_end) in
      omega arith

  -- then n rounds add something
  pub chain_found : (n : ℕ) → Ends n → chain D ≡ n
  unfolding chain
  chain_found n e = first_ones (adds D) n e.first (quiet_later n e.next) 0 (length D) (omega (arith, few n e)) ∙ omega arith

  pub chain_ends : Ends (chain D)
  chain_ends = subst Ends (sym (chain_found ended.0 ended.1)) ended.1

  -- the rounds that add something, all of them
  pub adds_exactly : (n : ℕ) → T (adds D n) ↔ (n < chain D)
  adds_exactly n = ((λ t. lt_of_not-le (λ l. quiet_later (chain D) chain_ends.next n l t)), (λ l. chain_ends.first n l))

  -- a round that adds nothing has come to the least closed set
  pub ends_least : (n : ℕ) → Quiet n → rounds n D 0 ≡ least D
  ends_least n q = sym (closed_least n D (fixed_closed D (rounds n D 0) (sym (rounds_next n D 0) ∙ q)))

  -- each brings in an atom
  pub grown : (n : ℕ) → Each n → n ≤ how_many (rounds n D 0)
  grown zero f = omega arith
  grown (suc n) f =
      let ih = grown n (λ k l. f k (omega arith)) in
      let s = rounds n D 0 in
      let kept = subst (λ (x : ℕ). Inside s x) (sym (rounds_next n D 0)) (fire_keeps D s s) in
      let more = many_more s (rounds (suc n) D 0) kept (λ e. adds_more n (f n (omega arith)) (sym e)) in
      omega arith

  pub chain_atoms : chain D ≤ how_many (least D)
  chain_atoms = subst (λ (s : ℕ). chain D ≤ how_many s) (ends_least (chain D) chain_ends.next) (grown (chain D) chain_ends.first)

  pub chain_rules : chain D ≤ length D
  chain_rules = few (chain D) chain_ends

-- ---- of a program
-- a test that a's atoms alone pass, numbered from i on, is passed by no more numbers than a has atoms
kept_few : (k a i : ℕ) (p : ℕ → Bool) → ((j : ℕ) → p (i + j) ≡ has a j) → length (keep p (numbers i k)) ≤ how_many a
unfolding keep numbers
kept_few zero a i p e = omega arith
kept_few (suc k) a i p e =
    go (p i) refl (kept_few k (a / 2) (suc i) p (λ j. ap p (omega arith) ∙ e (suc j) ∙ has_next a j))
  where
    go : (b : Bool) → p i ≡ b → length (keep p (numbers (suc i) k)) ≤ how_many (a / 2)
        → length (cond b (i ∷ keep p (numbers (suc i) k)) (keep p (numbers (suc i) k))) ≤ how_many a
    go true q ih =
        let low : a % 2 ≡ 1 = eqb-true (a % 2) 1 (sym (has_low a) ∙ sym (e 0) ∙ ap p (omega arith) ∙ q) in
        omega (arith, ones_step a)
    go false q ih = omega (arith, ones_step a)

raised_length : (f : ℕ) → length (raised f) ≤ how_many f
unfolding raised
raised_length f = omega (arith, length-map (keep (has f) (below 16)) fact, kept_few 16 f 0 (has f) (λ j. ap (has f) (omega arith)))

module _ (p : Program) (s : ℕ) where
  -- no more rounds than the set has atoms
  pub chain_set : chain_to p s ≤ how_many s
  unfolding chain_to
  chain_set =
      let D = reduct (rules p) s in
      omega (arith, chain_atoms D, many_mono (least D) s (least_inside D s (self_closed (rules p) s)))

  -- nor than rows and raised atoms together
  pub chain_rows : chain_to p s ≤ length p.rows + how_many p.flags
  unfolding chain_to rules
  chain_rows =
      omega
      (arith, chain_rules (reduct (rules p) s), reduct_length (p.rows ++ raised p.flags) s, length-append p.rows (raised p.flags), raised_length p.flags)

-- ---- an example: `a`; `b if a`; `c if b`. Three rounds for all three atoms; none for b and c alone, which nothing begins; with b raised two, since a
-- and b come together
pub steps : ℕ → Program
steps flags =
    record {
      atoms = 3;
      rows =
          record { head = 0 ∷ []; pos = []; neg = [] }
          ∷ record { head = 1 ∷ []; pos = 0 ∷ []; neg = [] }
          ∷ record { head = 2 ∷ []; pos = 1 ∷ []; neg = [] }
          ∷ [];
      pairs = [];
      flags = flags;
    }

pub example_rounds : (chain_to (steps 0) 7 ≡ 3) × (chain_to (steps 0) 6 ≡ 0) × (chain_to (steps 2) 7 ≡ 2)
unfolding steps chain_to chain adds rules raised fact keep gather numbers has reduct reduct_row reduct_head none_in some_in some all_in every fire rounds
example_rounds = (refl, refl, refl)
