-- The statement of a call that lists sets, for each of its ways out. Assumes nothing.
use Rattle.std.specs.Prelude.{Result, Ok, Err, IsErrAnd}
use mathlib.Core.Path.{◌≡◌, ◌∙◌}
use mathlib.Core.List.{List, [], ◌∷◌}
use Prim.Native.Nat.{ℕ, ◌≤◌, ◌<◌}
use native.Mathlib.Omega.{arith}
use lib.Dec.{ltb}
use lib.ListN.{length}
use borrow.Author.Tests.{ne_eqb, lt-ltb, le-ltb}
use Rattle.page.specs.Refusals.{refuse, first_that, flag_refusals, flag_no}
use Rattle.page.specs.Answers.{number}
use Rattle.page.specs.declared.refusal.Refusal.{Refusal}
use Rattle.page.specs.declared.refusal.Refusal.TheVariants.{NoRoom}
use Rattle.page.proofs.Refusals.{flag_numbered}
use Rattle.page.proofs.Refusing.{above_zero, passed_up, first_stands, then_rest, refused_here, given}
use Rattle.lanes.specs.Entries.{stored}
use Rattle.lanes.specs.Sets.{left, FoundSays}
use Rattle.engine.specs.Calls.{list_refusals, list_no, SetsSay}

module _ (sets page : List ℕ) (flags : ℕ) (out : List ℕ) where
  pub says_refused : (r : Result ℕ Refusal) (e : Refusal) → IsErrAnd r (λ y. y ≡ e) → number e ≡ flag_no page flags → SetsSay sets page flags out r out
  unfolding list_no list_refusals flag_no stored
  says_refused r e p q =
      let n = first_stands (flag_refusals page flags) (refuse 11 (ltb (length out) (length sets)) ∷ []) (flag_numbered page flags) e q in
      rw (passed_up r e p) (refused_here 0 (length sets) _ e n, rw (← n, ne_eqb (number e) 0 (λ z. omega (arith, above_zero e, z))))

  -- else 11 or the sets, as it is found for the lent slice
  module _ (z : 0 ≡ flag_no page flags) (r : ℕ) (after : List ℕ) (s : FoundSays sets out r after) where
    from_last : (n : ℕ) → n ≡ first_that (refuse 11 (ltb (length out) (length sets)) ∷ []) → n ≡ list_no page flags sets out
    unfolding list_no list_refusals flag_no
    from_last n = then_rest (flag_refusals page flags) (refuse 11 (ltb (length out) (length sets)) ∷ []) (flag_numbered page flags) n z

    pub says_short : length out < r → SetsSay sets page flags out (Err NoRoom) after
    unfolding first_that stored left
    says_short f =
        let l = lt-ltb (length out) (length sets) (omega (arith, f, s.0)) in
        let n = from_last 11 (rw l) in
        (refused_here 0 (length sets) _ NoRoom n, s.1 ∙ rw (← n, l))

    pub says_stored : r ≤ length out → SetsSay sets page flags out (Ok r) after
    unfolding first_that stored left
    says_stored f =
        let l = le-ltb (length out) (length sets) (omega (arith, f, s.0)) in
        let n = from_last 0 (rw l) in
        (given 0 (length sets) _ n r s.0, s.1 ∙ rw (← n, l))
