-- The least degree that a rule has in one of two sets alone decides which of the sets is preferred. At a smaller degree the two collections
-- are equal and at this one they are not, so no other degree can be the one that 000 Definition 6 asks for. Assumes nothing.
use Rattle.std.specs.Prelude.{Option, Some, None}
use mathlib.Core.Path.{◌≡◌, refl, sym, ap, ◌∙◌, subst}
use mathlib.Core.Bool.{Bool, true, false, ◌&&◌, ◌||◌, not, cond}
use mathlib.Core.Logic.{◌⊎◌, inl, inr, ⊎_elim}
use mathlib.Core.List.{List}
use Prim.Native.Nat.{ℕ, zero, suc, ◌^◌, ◌≤◌, ◌<◌}
use native.Mathlib.Omega.{arith}
use native.Mathlib.Decide.{dec_lt}
use lib.Dec.{T, eqb, eqb→eq, T_not, not_T}
use borrow.Author.Tests.{eq-eqb, eqb-true}
use Rattle.atoms.specs.Atoms.{has, inside, common}
use Rattle.atoms.proofs.Truth.{and_l, and_r, both, yes_true, no_false, true_yes, false_no, same_yes}
use Rattle.atoms.proofs.Bits.{has_and, inside_test, test_inside}
use Rattle.lpod.specs.Lists.{some, every}
use Rattle.lpod.specs.Rule.{Rule, Program, rules, raised, fact}
use Rattle.lpod.specs.Satisfied.{all_in, none_in, some_in, body_holds}
use Rattle.lpod.specs.Degree.{place, degree}
use Rattle.lpod.specs.Preferred.{preferred}
use Rattle.lpod.proofs.Lists.{some_at, some_made, some_append}
use Rattle.lpod.proofs.Between.{raised_row, row_raised}
use Rattle.lpod.proofs.InclusionOrder.{Within, Preferred, preferred_says}
use Rattle.engine.specs.Rank.{rows_seen, raised_seen}
use Rattle.engine.specs.declared.rank.Difference.{Difference}
use Rattle.engine.proofs.LeastKept.{Side, degree_of, in_first, in_second, Kept, kept_told, alone, rows_keep}

-- ---- no rule has degree j in M alone: those of degree j in M are among those in N
module _ (P : List Rule) (M N j : ℕ) where
  in_m : Rule → Bool
  in_m r = eqb (degree M r) j && not (eqb (degree N r) j)

  none_within : alone P M N j ≡ false → Within P j N M
  unfolding alone in_m
  none_within n r m e = go (eqb (degree N r) j) refl
    where
      go : (b : Bool) → eqb (degree N r) j ≡ b → degree N r ≡ j
      go true t = eqb-true (degree N r) j t
      go false t =
          absurd (false_no n (some_made in_m P r m
          (both (eqb (degree M r) j) (not (eqb (degree N r) j)) (true_yes (eq-eqb (degree M r) j e)) (not_T (eqb (degree N r) j) (false_no t)))))

  within_none : Within P j N M → alone P M N j ≡ false
  unfolding alone in_m
  within_none w = no_false (alone P M N j) (λ t.
      let x = some_at in_m P t in
      let a = eqb (degree M x.0) j in
      let b = eqb (degree N x.0) j in
      T_not b (and_r a (not b) x.1.1) (true_yes (eq-eqb (degree N x.0) j (w x.0 x.1.0 (eqb→eq (degree M x.0) j (and_l a (not b) x.1.1))))))

-- ---- the rows of the raised atoms
fact_degree : (s a : ℕ) → degree s (fact a) ≡ cond (has s a) 1 0
unfolding degree fact body_holds all_in none_in some_in some every place
fact_degree s a = refl

module _ (f : ℕ) (w : f < 2 ^ 16) (M N : ℕ) where
  -- degree 1 in M alone: a raised atom that M holds and N does not
  raised_alone : alone (raised f) M N 1 ≡ not (inside (common f M) N)
  raised_alone = go (alone (raised f) M N 1) refl
    where
      held : (s a : ℕ) → degree s (fact a) ≡ 1 → T (has s a)
      held s a e = one (has s a) (sym (fact_degree s a) ∙ e)
        where
          one : (b : Bool) → ◌≡◌ {A = ℕ} (cond b 1 0) 1 → T b
          one true e = tt
          one false e = absurd (omega arith)

      go : (b : Bool) → alone (raised f) M N 1 ≡ b → b ≡ not (inside (common f M) N)
      go false e =
          let i : T (inside (common f M) N) = inside_test (common f M) N (λ a t.
          let h : T (has f a && has M a) = subst T (has_and f M a) t in
          held N a (none_within (raised f) M N 1 e (fact a) (raised_row f a w (and_l (has f a) (has M a) h))
          (fact_degree M a ∙ rw (yes_true (has M a) (and_r (has f a) (has M a) h))))) in
          sym (ap not (yes_true (inside (common f M) N) i))
      go true e =
          let n : T (inside (common f M) N) → ⊥ = λ t. false_no (within_none (raised f) M N 1 (λ r m q.
          let x = row_raised f r m in
          let q' : degree M (fact x.0) ≡ 1 = subst (λ (r : Rule). degree M r ≡ 1) x.1.0 q in
          let c : T (has (common f M) x.0) = subst T (sym (has_and f M x.0)) (both (has f x.0) (has M x.0) x.1.1 (held M x.0 q')) in
          subst (λ (r : Rule). degree N r ≡ 1) (sym x.1.0) (fact_degree N x.0 ∙ rw (yes_true (has N x.0) (test_inside (common f M) N t x.0 c))))) (true_yes e) in
          sym (ap not (no_false (inside (common f M) N) n))

  raised_none : (j : ℕ) → 2 ≤ j → alone (raised f) M N j ≡ false
  raised_none j l = within_none (raised f) M N j (λ r m q.
      let x = row_raised f r m in
      absurd (small (has M x.0) (sym (fact_degree M x.0) ∙ subst (λ (r : Rule). degree M r ≡ j) x.1.0 q)))
    where
      small : (b : Bool) → cond b 1 0 ≡ j → ⊥
      small true e = omega arith
      small false e = omega arith

raised_keeps : (f : ℕ) → f < 2 ^ 16 → (M N : ℕ) → Kept (alone (raised f) M N) (alone (raised f) N M) (raised_seen f M N)
unfolding raised_seen
raised_keeps f w M N =
    go (not (inside (common f M) N)) (not (inside (common f N) M)) (raised_alone f w M N) (raised_alone f w N M)
  where
    -- no degree in one set alone: 1 is denied, and there is no larger one
    never : (M N : ℕ) → alone (raised f) M N 1 ≡ false → Side (alone (raised f) M N) 0 false
    never M N e = record {
      below = λ j l o. ⊎_elim (λ i. raised_none f w M N j i) (λ q. ap (alone (raised f) M N) q ∙ e) (one_or_more j l);
      here = λ l. absurd (omega arith);
      none = λ z. refl;
    }
      where
        one_or_more : (j : ℕ) → 1 ≤ j → (2 ≤ j) ⊎ (j ≡ 1)
        one_or_more j l = at (dec_lt 1 j)
          where
            at : Dec (1 < j) → (2 ≤ j) ⊎ (j ≡ 1)
            at (yes h) = inl (omega arith)
            at (no h) = inr (omega arith)

    at_one : (M N : ℕ) (b : Bool) → alone (raised f) M N 1 ≡ b → Side (alone (raised f) M N) 1 b
    at_one M N b e = record { below = λ j l o. absurd (⊎_elim (λ z. omega arith) (λ h. omega arith) o); here = λ l. e; none = λ z. absurd (omega arith) }

    go : (a b : Bool) → alone (raised f) M N 1 ≡ a → alone (raised f) N M 1 ≡ b
        → Kept (alone (raised f) M N) (alone (raised f) N M) (cond (a || b) (Some (record { degree = 1; first = a; second = b })) None)
    go true b ea eb = record { one = at_one M N true ea; other = at_one N M b eb; found = λ l. tt; from_one = omega arith }
    go false true ea eb = record { one = at_one M N false ea; other = at_one N M true eb; found = λ l. tt; from_one = omega arith }
    go false false ea eb = record { one = never M N ea; other = never N M eb; found = λ l. absurd (omega arith); from_one = tt }

-- ---- what is found at the end decides
module _ (p : Program) (M N at : ℕ) (up down : Bool) (one : Side (alone (rules p) M N) at up) (other : Side (alone (rules p) N M) at down)
    (found : 1 ≤ at → T (up || down)) where
  decided : (up && not down) ≡ preferred p M N
  decided = same_yes (up && not down) (preferred p M N) (λ t. (preferred_says p M N).1 (is_preferred t)) (λ t. was_found ((preferred_says p M N).0 t))
    where
      equal_below : (j : ℕ) → 1 ≤ j → (at ≡ 0) ⊎ (j < at) → Within (rules p) j M N × Within (rules p) j N M
      equal_below j l o = (none_within (rules p) N M j (other.below j l o), none_within (rules p) M N j (one.below j l o))

      is_preferred : T (up && not down) → Preferred p M N
      is_preferred t =
          let first : T up = and_l up (not down) t in
          let second : down ≡ false = no_false down (T_not down (and_r up (not down) t)) in
          let z : (at ≡ 0 → ⊥) = λ z. false_no (one.none z) first in
          let l : 1 ≤ at = omega arith in
          record {
            k = at;
            from = l;
            part = none_within (rules p) N M at (other.here l ∙ second);
            strict = λ w. false_no (sym (one.here l) ∙ within_none (rules p) M N at w) first;
            equal = λ j i h. equal_below j i (inr h);
          }

      was_found : Preferred p M N → T (up && not down)
      was_found x = go (dec_lt x.k at) (dec_lt at x.k)
        where
          -- the degree that 000 Definition 6 asks for is still open: but there the two differ
          too_small : (at ≡ 0) ⊎ (x.k < at) → ⊥
          too_small o = x.strict (equal_below x.k x.from o).1

          go : Dec (x.k < at) → Dec (at < x.k) → T (up && not down)
          go (yes h) b = absurd (too_small (inr h))
          go (no h) (yes g) = absurd (unequal at refl)
            where
              unequal : (d : ℕ) → at ≡ d → ⊥
              unequal zero e = too_small (inl e)
              unequal (suc d) e =
                  let l : 1 ≤ at = omega arith in
                  let q = x.equal at l g in
                  let a : up ≡ false = sym (one.here l) ∙ within_none (rules p) M N at q.1 in
                  let b : down ≡ false = sym (other.here l) ∙ within_none (rules p) N M at q.0 in
                  subst T (ap (λ (y : Bool). y || down) a ∙ b) (found l)
          go (no h) (no g) =
              let e : at ≡ x.k = omega arith in
              let l : 1 ≤ at = omega (arith, x.from) in
              let b : down ≡ false = sym (other.here l) ∙ within_none (rules p) N M at (rw e x.part) in
              both up (not down) (first e l) (not_T down (false_no b))
            where
              first : at ≡ x.k → 1 ≤ at → T up
              first e l = go' up refl
                where
                  go' : (b : Bool) → up ≡ b → T b
                  go' true q = tt
                  go' false q = x.strict (rw (← e) (none_within (rules p) M N at (one.here l ∙ q)))

-- one pass: the rows of the raised atoms, then those of the page
pub pass_decides : (p : Program) (M N : ℕ) → p.flags < 2 ^ 16 → (f : Option Difference) → f ≡ rows_seen (raised_seen p.flags M N) p.rows M N
    → (in_first f && not (in_second f)) ≡ preferred p M N
unfolding alone rules
pass_decides p M N w f e =
    let k = subst (λ (x : Option Difference). Kept (alone (rules p) M N) (alone (rules p) N M) x) (sym e)
    (kept_told _ _ _ _ (rows_seen (raised_seen p.flags M N) p.rows M N) (turned M N) (turned N M)
    (rows_keep p.rows M N _ _ (raised_seen p.flags M N) (raised_keeps p.flags w M N))) in
    decided p M N (degree_of f) (in_first f) (in_second f) k.one k.other k.found
  where
    or_turn : (a b : Bool) → (a || b) ≡ (b || a)
    or_turn true true = refl
    or_turn true false = refl
    or_turn false true = refl
    or_turn false false = refl

    turned : (M N j : ℕ) → (alone (raised p.flags) M N j || alone p.rows M N j) ≡ alone (rules p) M N j
    turned M N j = or_turn (alone (raised p.flags) M N j) (alone p.rows M N j) ∙ sym (alone_rules M N j)
      where
        alone_rules : (M N j : ℕ) → alone (rules p) M N j ≡ (alone p.rows M N j || alone (raised p.flags) M N j)
        alone_rules M N j = some_append (λ r. eqb (degree M r) j && not (eqb (degree N r) j)) p.rows (raised p.flags)
