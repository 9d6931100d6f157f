-- Rounds as code makes them: from the empty set, each set reached lies inside every closed set; a round that adds nothing, or one that
-- reaches the set whose reduct it is, has come to the least. A round that adds something gives a larger number. And the same rounds counted.
-- Assumes nothing.
use mathlib.Core.Path.{◌≡◌, refl, sym, ap, ◌∙◌, subst}
use mathlib.Core.List.{List, [], ◌∷◌, map}
use Prim.Native.Nat.{ℕ, suc, ◌+◌, ◌^◌, ◌≤◌, ◌<◌}
use native.Mathlib.Decide.{ℕ_discrete}
use native.Mathlib.Numerals.{add-one}
use native.Mathlib.Omega.{arith}
use lib.Arith.{lt_of_le-ne}
use Rattle.std.specs.List.{fold}
use Rattle.atoms.specs.Atoms.{Inside, how_many, union, common}
use Rattle.atoms.proofs.Bits.{inside_le}
use Rattle.atoms.proofs.Count.{many_more}
use Rattle.lpod.specs.Lists.{gather}
use Rattle.lpod.specs.Rule.{Rule, rules}
use Rattle.lpod.specs.Reduct.{Definite, reduct_row, reduct}
use Rattle.lpod.specs.Least.{fire, rounds, least, Closed}
use Rattle.lpod.specs.Chain.{chain}
use Rattle.lpod.proofs.LeastClosed.{fire_keeps, fire_inside, rounds_inside, empty_inside, closed_fixed, fixed_closed, is_least}
use Rattle.lpod.proofs.Chains.{Quiet, Each, rounds_next, one_more, chain_found, grown}
use Rattle.lpod.proofs.Firing.{fire_append, fire_rules}
use Rattle.lpod.proofs.ReductIsHereThere.{self_closed}
use Rattle.words.specs.Coded.{rule_in, rules_in, rules_with, program_in}

-- ---- the rows let fire one after the other
pub all_fire : (rows : List ℕ) (I s t : ℕ) → fold (λ t w. fire (reduct_row (rule_in w) I) s t) t rows ≡ fire (reduct (rules_in rows) I) s t
unfolding reduct gather rules_in fire
all_fire [] I s t = refl
all_fire (w ∷ rows) I s t =
    all_fire rows I s (fire (reduct_row (rule_in w) I) s t) ∙ sym (fire_append (reduct_row (rule_in w) I) (gather (λ r. reduct_row r I) (map rule_in rows)) s t)

-- the rows, then those of the raised atoms
pub fire_flags : (rows : List ℕ) (flags I s t : ℕ) → flags < 2 ^ 16
    → union (fire (reduct (rules_in rows) I) s t) (common flags I) ≡ fire (reduct (rules_with rows flags) I) s t
unfolding rules rules_with program_in
fire_flags rows flags I s t w = fire_rules (program_in rows [] flags) I s t _ w refl

-- ---- until nothing is added
abbrev pub Smallest : List Definite → ℕ → Type 0
Smallest D s = (c : ℕ) → Closed D c → Inside s c

module _ (D : List Definite) (s t : ℕ) (e : t ≡ fire D s s) where
  pub small_round : Smallest D s → Smallest D t
  small_round f c k = subst (λ (x : ℕ). Inside x c) (sym e) (fire_inside D s s c k (f c k) (f c k))

  pub small_fixed : Smallest D s → t ≡ s → s ≡ least D
  small_fixed f q = sym ((is_least D s).1 (record { itself = fixed_closed D s (sym e ∙ q); smallest = f }))

  pub small_grows : (t ≡ s → ⊥) → s < t
  small_grows n = lt_of_le-ne (inside_le s t (subst (λ (x : ℕ). Inside s x) (sym e) (fire_keeps D s s))) (λ q. n (sym q))

-- the set is closed under its own reduct
pub small_whole : (P : List Rule) (I s : ℕ) → Smallest (reduct P I) s → s ≡ I → s ≡ least (reduct P I)
small_whole P I s f e = sym ((is_least (reduct P I) s).1 (record { itself = subst (λ (x : ℕ). Closed (reduct P I) x) (sym e) (self_closed P I); smallest = f }))

-- ---- the rounds counted: n of them, each of which added something, have come to s
pub record Made (D : List Definite) (n s : ℕ) : Type 0 where
  pub come : s ≡ rounds n D 0
  pub each : Each D n

pub made_start : (D : List Definite) → Made D 0 0
unfolding rounds
made_start D = record { come = refl; each = λ k l. absurd (omega arith) }

module _ (D : List Definite) (n s t : ℕ) (e : t ≡ fire D s s) (m : Made D n s) where
  next : rounds (suc n) D 0 ≡ t
  next = rounds_next n D 0 ∙ ap (λ (x : ℕ). fire D x x) (sym m.come) ∙ sym e

  -- a round that adds something is one more; one that adds nothing is the end
  pub made_round : (t ≡ s → ⊥) → Made D (n + 1) t
  made_round d =
      record {
        come = sym next ∙ ap (λ (k : ℕ). rounds k D 0) (sym (add-one n));
        each = λ k l. one_more D n m.each (λ q. d (sym next ∙ q ∙ sym m.come)) k (omega arith);
      }

  pub made_quiet : t ≡ s → n ≡ chain D
  made_quiet q = sym (chain_found D n (record { first = m.each; next = next ∙ q ∙ m.come }))

-- as many as the set has atoms have come to the set itself
pub made_whole : (P : List Rule) (I n s : ℕ) → how_many I ≤ n → Made (reduct P I) n s → n ≡ chain (reduct P I)
made_whole P I n s l m = sym (chain_found D n (record { first = m.each; next = go (ℕ_discrete X I) }))
  where
    D : List Definite
    D = reduct P I

    X : ℕ
    X = rounds n D 0

    go : Dec (X ≡ I) → Quiet D n
    go (yes e) = rounds_next n D 0 ∙ closed_fixed D X (subst (λ (x : ℕ). Closed D x) (sym e) (self_closed P I))
    go (no d) =
        let many = grown D n m.each in
        let more = many_more X I (rounds_inside n D 0 I (self_closed P I) (empty_inside I)) d in
        absurd (omega arith)
