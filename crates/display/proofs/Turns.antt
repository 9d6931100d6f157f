-- What the call answers at each of its ends, by what it has found up to there: the pick's own refusal; 14; else what the chosen outcome gives. The number is
-- that of the first refusal of the list. Assumes nothing.
use Rattle.std.specs.Prelude.{Result, Ok, Err, IsErrAnd}
use mathlib.Core.Path.{◌≡◌, refl, sym, ap, ◌∙◌}
use mathlib.Core.Bool.{Bool, true, false, cond}
use mathlib.Core.List.{List, [], ◌∷◌}
use Prim.Native.Nat.{ℕ}
use lib.Dec.{T}
use borrow.Author.Tests.{ne_eqb}
use Rattle.lpod.specs.Lists.{every}
use Rattle.lpod.specs.Best.{pick}
use Rattle.page.specs.Fields.{atom_count}
use Rattle.page.specs.Program.{program}
use Rattle.page.specs.Refusals as lists
use Rattle.page.specs.Refusals.{first_that, numbered, flag_refusals}
use Rattle.page.specs.declared.refusal.Refusal.{Refusal}
use Rattle.page.specs.declared.refusal.Refusal.TheVariants.{NoOutcome}
use Rattle.page.proofs.Refusals.{flag_numbered, first_append}
use Rattle.page.proofs.Refusing.{first_stands, then_rest, refused_before, refused_here}
use Rattle.engine.specs.Calls.{set_or, pick_refusals, pick_no, PickSays}
use Rattle.engine.proofs.Given.{numbered_append, number_said, accepted_said}
use Rattle.display.specs.Shows.{shown_of, fit_no, lacks_outcome, own_refusals, pick_set, shown_by, display_refusals, display_no, displayed, FitSays, DisplaySays}
use Rattle.display.specs.declared.Readings.{Readings}
use Rattle.display.specs.declared.Shown.{Shown}
use Rattle.display.specs.declared.Shown.TheVariants.{NoNumber}

-- the pick's refusals have numbers above 0
pub pick_numbered : (page : List ℕ) (flags : ℕ) → T (numbered (pick_refusals page flags))
unfolding numbered every pick_refusals
pick_numbered page flags = numbered_append (flag_refusals page flags) (_ ∷ []) (flag_numbered page flags) tt

module _ (r : Readings) (page : List ℕ) (flags : ℕ) where
  own : List lists.Refusal
  own = own_refusals (program page flags).atoms (pick_set page flags) (shown_by r page flags)

  -- where the pick is accepted, the two conditions decide
  pub own_number : pick_no page flags ≡ 0 → display_no r page flags ≡ cond (lacks_outcome (program page flags).atoms (pick_set page flags)) 14 (fit_no (shown_by r page flags))
  unfolding display_no display_refusals own_refusals own fit_no pick_no first_that
  own_number z = sym (then_rest (pick_refusals page flags) own (pick_numbered page flags) _ (sym z) refl)

  pub pick_number : (pick_no page flags ≡ 0 → ⊥) → pick_no page flags ≡ display_no r page flags
  unfolding display_no display_refusals own pick_no
  pick_number z = sym (first_append (pick_refusals page flags) own (pick_numbered page flags) ∙ rw (ne_eqb (first_that (pick_refusals page flags)) 0 z))

  -- in the code's words: e is the pick's refusal
  pub by_pick : (d : Result Shown Refusal) (e : Refusal) → IsErrAnd d (λ y. y ≡ e) → PickSays page flags (Err e) → DisplaySays r page flags d
  unfolding display_no display_refusals own pick_no
  by_pick d e is-error says =
      let n = number_said 0 (set_or 0 (pick (program page flags))) (pick_no page flags) (Err e) says in
      refused_before NoNumber _ _ d e is-error (first_stands (pick_refusals page flags) own (pick_numbered page flags) e n)

  -- x is the picked set, a the number of atoms, b whether 14 holds, d what the chosen outcome gives
  module _ (x : ℕ) (says : PickSays page flags (Ok x)) (a : ℕ) (is-atoms : a ≡ atom_count page) (b : Bool) (is-lack : b ≡ lacks_outcome a x) where
    accepted : (pick_no page flags ≡ 0) × (x ≡ pick_set page flags)
    unfolding pick_set
    accepted = accepted_said 0 (set_or 0 (pick (program page flags))) (pick_no page flags) x says

    lack : lacks_outcome (program page flags).atoms (pick_set page flags) ≡ b
    unfolding program
    lack = rw (is-lack, is-atoms, accepted.1)

    pub by_outcome : b ≡ true → DisplaySays r page flags (Err NoOutcome)
    by_outcome t = refused_here NoNumber _ _ NoOutcome (sym (own_number accepted.0 ∙ rw (lack, t)))

    pub by_reading : b ≡ false → (s : Shown) → s ≡ shown_of x r → (d : Result Shown Refusal) → FitSays s d → DisplaySays r page flags d
    unfolding shown_by
    by_reading t s is-shown d is-fitted =
        let e : s ≡ shown_by r page flags = is-shown ∙ ap (λ (y : ℕ). shown_of y r) accepted.1 in
        is-fitted ∙ ap (λ (y : Shown). displayed (fit_no y) y) e
        ∙ ap (λ (m : ℕ). displayed m (shown_by r page flags)) (sym (own_number accepted.0 ∙ rw (lack, t)))
