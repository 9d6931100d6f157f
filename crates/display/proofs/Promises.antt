-- What a user may rely on, for every page, flag word and readings. Each theorem starts from `DisplaySays`, which is the call's own contract, and
-- speaks of what the answer says (`said`). Assumes nothing.
use mathlib.Core.Path.{◌≡◌, refl, sym, ap, ◌∙◌, subst}
use mathlib.Core.Bool.{Bool, true, false, not, cond, true≢false}
use mathlib.Core.Logic.{◌⊎◌, ◌↔◌}
use mathlib.Core.List.{List, ◌++◌}
use Rattle.std.specs.Prelude.{Option, Some, None, Result}
use Prim.Native.Nat.{ℕ, zero, suc, ◌^◌, ◌≤◌, ◌<◌}
use native.Mathlib.Omega.{arith}
use native.Mathlib.Decide.{ℕ_discrete}
use lib.Dec.{T, eqb}
use lib.Ieee.{Float, nan, inf, fin, is_nan, binary32}
use lib.Ieee.Bits.{to_bits-of_bits}
use borrow.Author.Tests.{ne_eqb, not-false}
use Rattle.atoms.proofs.Truth.{true_yes, yes_true}
use Rattle.lpod.specs.Lists.{every}
use Rattle.lpod.specs.Answer.{answer}
use Rattle.page.specs.Program.{program}
use Rattle.page.specs.Refusals.{first_that, numbered}
use Rattle.page.specs.Answers.{no, answered, by_number}
use Rattle.page.specs.declared.refusal.Refusal.{Refusal}
use Rattle.page.proofs.Refusing.{one_answered}
use Rattle.engine.specs.Calls.{pick_refusals, pick_no}
use Rattle.engine.proofs.Given.{Given, given, numbered_append, where_refused, where_accepted, number_said}
use Rattle.engine.proofs.Demands.{NonePreferred, pick_stands}
use Rattle.display.specs.Readings.{finite, bits_of, of_word}
use Rattle.display.specs.Shows.{outcomes, first_of, shown_at, shown_of, reading_of, outcome_of, said, lacks_outcome, fit, unfit, fit_no, own_refusals, pick_set, shown_by, display_refusals, display_no, Displayed, displayed, DisplaySays}
use Rattle.display.specs.declared.Readings.{Readings}
use Rattle.display.specs.declared.Shown.{Shown}
use Rattle.display.specs.declared.Shown.TheVariants.{Live, Second, Held, NoNumber}
use Rattle.display.proofs.OneOutcome.{OnlyOutcome}
use Rattle.display.proofs.Conditions.{NotFinite, lack_says, says_lack, no_lack, chosen_one, only_first, unfit_says, says_unfit}
use Rattle.display.proofs.Turns.{pick_numbered, own_number, pick_number}

-- ---- what the code has in hand, of three readings
module _ (r : Readings) where
  outcome_at : (a : ℕ) → a < 4 → outcome_of 0 (shown_at a r) ≡ Some a
  unfolding outcome_of shown_at
  outcome_at zero l = refl
  outcome_at (suc zero) l = refl
  outcome_at (suc (suc zero)) l = refl
  outcome_at (suc (suc (suc zero))) l = refl
  outcome_at (suc (suc (suc (suc a)))) l = absurd (omega arith)

fifteen : (s : Shown) → (fit_no s ≡ 15) ↔ (unfit s ≡ true)
unfolding fit_no first_that
fifteen s = go (unfit s)
  where
    go : (u : Bool) → ◌≡◌ {A = ℕ} (cond u 15 0) 15 ↔ (u ≡ true)
    go true = ((λ e. refl), (λ e. refl))
    go false = ((λ e. absurd (omega arith)), (λ e. absurd (true≢false (sym e))))

-- 14 where the first holds, else 15 where the second does
abbrev decided : Bool → Bool → ℕ
decided b u = cond b 14 (cond u 15 0)

none_decided : (b u : Bool) → decided b u ≡ 0 → (b ≡ false) × (u ≡ false)
none_decided true u e = absurd (omega arith)
none_decided false true e = absurd (omega arith)
none_decided false false e = (refl, refl)

first_decided : (b u : Bool) → decided b u ≡ 14 → b ≡ true
first_decided true u e = refl
first_decided false true e = absurd (omega arith)
first_decided false false e = absurd (omega arith)

module _ (r : Readings) (page : List ℕ) (flags : ℕ) (d : Result Shown Refusal) (says : DisplaySays r page flags d) where
  abbrev view : Displayed
  view = answered NoNumber d

  abbrev atoms : ℕ
  atoms = (program page flags).atoms

  abbrev set : ℕ
  set = pick_set page flags

  number : no d ≡ display_no r page flags
  number = number_said NoNumber (shown_by r page flags) (display_no r page flags) d says

  in_view : view.no ≡ no d
  unfolding by_number
  in_view = ap (λ (x : Displayed). x.no) says ∙ sym number

  -- ---- each refusal exactly when it should be given, the first in order; and none shows a number
  pub refused_first : Given (display_refusals r page flags) (no d)
  unfolding display_refusals own_refusals display_no numbered every
  refused_first =
      given (display_refusals r page flags) (no d) (numbered_append (pick_refusals page flags) (own_refusals atoms set (shown_by r page flags)) (pick_numbered page flags) tt) number

  -- the same in words: those of the pick; then 14; then 15
  pub given_pick : (pick_no page flags ≡ 0 → ⊥) → no d ≡ pick_no page flags
  given_pick z = number ∙ sym (pick_number r page flags z)

  own : pick_no page flags ≡ 0 → no d ≡ cond (lacks_outcome atoms set) 14 (fit_no (shown_by r page flags))
  own z = number ∙ own_number r page flags z

  pub given_14 : pick_no page flags ≡ 0 → (no d ≡ 14) ↔ ((atoms < 4) ⊎ ((a : ℕ) → OnlyOutcome set a → ⊥))
  unfolding fit_no first_that
  given_14 z = (
    (λ e. lack_says atoms set (first_decided (lacks_outcome atoms set) (unfit (shown_by r page flags)) (sym (own z) ∙ e))),
    (λ h. own z ∙ rw (says_lack atoms set h)),
  )

  pub given_15 : pick_no page flags ≡ 0 → 4 ≤ atoms → (a : ℕ) → OnlyOutcome set a
      → (no d ≡ 15) ↔ ((x : Float) × ((reading_of (shown_at a r) ≡ Some x) × NotFinite x))
  unfolding shown_by shown_of
  given_15 z l a o =
      let s : shown_by r page flags ≡ shown_at a r = ap (λ (b : ℕ). shown_at b r) (only_first set a o) in
      let e : no d ≡ fit_no (shown_at a r) = own z ∙ rw (no_lack atoms set l a o, s) in (
        (λ q. unfit_says (shown_at a r) ((fifteen (shown_at a r)).0 (sym e ∙ q))),
        (λ h. e ∙ (fifteen (shown_at a r)).1 (says_unfit (shown_at a r) h.0 h.1.0 h.1.1)),
      )

  blank : (no d ≡ 0 → ⊥) → view.value ≡ NoNumber
  unfolding by_number
  blank z = ap (λ (x : Displayed). x.value) says ∙ where_refused (display_no r page flags) (shown_by r page flags) NoNumber (λ e. z (number ∙ e))

  pub refused_blank : (no d ≡ 0 → ⊥) → ((said view).outcome ≡ None) × ((said view).reading ≡ None)
  unfolding said outcome_of reading_of
  refused_blank z = rw (blank z) (go view.no (λ e. z (sym in_view ∙ e)), refl)
    where
      go : (n : ℕ) → (n ≡ 0 → ⊥) → outcome_of n NoNumber ≡ None
      go zero z = absurd (z refl)
      go (suc n) z = refl

  -- ---- what an accepted call shows
  accepted : no d ≡ 0 → (pick_no page flags ≡ 0) × (lacks_outcome atoms set ≡ false) × (unfit (shown_by r page flags) ≡ false)
  unfolding fit_no first_that
  accepted z = go (ℕ_discrete (pick_no page flags) 0)
    where
      go : Dec (pick_no page flags ≡ 0) → (pick_no page flags ≡ 0) × (lacks_outcome atoms set ≡ false) × (unfit (shown_by r page flags) ≡ false)
      go (Dec.yes k) = let p = none_decided (lacks_outcome atoms set) (unfit (shown_by r page flags)) (sym (own k) ∙ z) in (k, p.0, p.1)
      go (Dec.no n) = absurd (n (sym (given_pick n) ∙ z))

  shown_is : no d ≡ 0 → view.value ≡ shown_by r page flags
  unfolding by_number
  shown_is z = ap (λ (x : Displayed). x.value) says ∙ where_accepted (display_no r page flags) (shown_by r page flags) NoNumber (sym number ∙ z)

  -- it is the one outcome that the pick holds, with its reading
  pub shown_only : no d ≡ 0 → (a : ℕ) × (OnlyOutcome set a × ((said view).outcome ≡ Some a) × ((said view).reading ≡ reading_of (shown_at a r)))
  unfolding said shown_by shown_of
  shown_only z =
      let a = first_of (outcomes set) in
      let o = chosen_one atoms set (accepted z).1 in
      (a, (o, rw (in_view ∙ z, shown_is z) (outcome_at r a o.outcome), ap reading_of (shown_is z)))

  -- and it is shown wherever the pick is accepted, the page has four atoms, and the chosen reading, if there is one, is finite
  pub shown_where : (a : ℕ) → pick_no page flags ≡ 0 → 4 ≤ atoms → OnlyOutcome set a → T (fit (reading_of (shown_at a r))) → (no d ≡ 0) × (view.value ≡ shown_at a r)
  unfolding shown_by shown_of fit_no unfit first_that
  shown_where a k l o q =
      let e : shown_by r page flags ≡ shown_at a r = ap (λ (b : ℕ). shown_at b r) (only_first set a o) in
      let z : no d ≡ 0 = own k ∙ rw (no_lack atoms set l a o, e, yes_true (fit (reading_of (shown_at a r))) q) in
      (z, shown_is z ∙ e)

  -- the pick behind it is the one of demand 3: an answer set to which none is preferred, and the lowest-numbered of that kind
  pub shown_stands : flags < 2 ^ 16 → no d ≡ 0
      → T (answer (program page flags) set) × NonePreferred (program page flags) set
      × ((t : ℕ) → T (answer (program page flags) t) → NonePreferred (program page flags) t → set ≤ t)
  unfolding pick_set
  shown_stands w z = pick_stands page flags w (accepted z).0 set refl

  -- ---- the shown number
  -- where a number is shown, the call is accepted, and the number is the chosen reading
  pub shown_accepted : (x : Float) → (said view).reading ≡ Some x → no d ≡ 0
  shown_accepted x e = go (ℕ_discrete (no d) 0)
    where
      go : Dec (no d ≡ 0) → no d ≡ 0
      go (Dec.yes z) = z
      go (Dec.no n) = let none = (refused_blank n).1 in cc

  pub shown_reading : (x : Float) → (said view).reading ≡ Some x → reading_of (shown_by r page flags) ≡ Some x
  unfolding said
  shown_reading x e = ap reading_of (sym (shown_is (shown_accepted x e))) ∙ e

  -- it is finite: neither an infinity nor a NaN is ever shown
  pub shown_finite : (x : Float) → (said view).reading ≡ Some x → T (finite x)
  unfolding unfit fit
  shown_finite x e =
      true_yes (not-false (finite x) (sym (ap (λ (o : Option Float). not (fit o)) (shown_reading x e)) ∙ (accepted (shown_accepted x e)).2))

  finite_number : (x : Float) → T (finite x) → T (not (is_nan x))
  unfolding finite is_nan
  finite_number nan t = absurd t
  finite_number (inf s) t = absurd t
  finite_number (fin s m e) t = tt

  -- it has the very bits of the chosen reading
  pub shown_bits : (n : ℕ) → n < 2 ^ 32 → reading_of (shown_by r page flags) ≡ Some (of_word n) → (x : Float) → (said view).reading ≡ Some x → bits_of x ≡ n
  shown_bits n w c x e =
      let shown = shown_reading x e in let q : x ≡ of_word n = cc in
      ap bits_of q ∙ to_bits-of_bits binary32 n w (finite_number (of_word n) (subst (λ (y : Float). T (finite y)) q (shown_finite x e)))

-- ---- two calls that differ only in readings that are not chosen show the same, whatever those readings are
module _ (r s : Readings) (page : List ℕ) (flags : ℕ) where
  same_at : (a : ℕ) → (a ≡ 0 → r.live ≡ s.live) → (a ≡ 1 → r.second ≡ s.second) → (a ≡ 2 → r.held ≡ s.held) → shown_at a r ≡ shown_at a s
  unfolding shown_at
  same_at zero f g h = ap {B = Shown} Live (f refl)
  same_at (suc zero) f g h = ap {B = Shown} Second (g refl)
  same_at (suc (suc zero)) f g h = ap {B = Shown} Held (h refl)
  same_at (suc (suc (suc a))) f g h = refl

  -- without a chosen outcome no reading is looked at
  lacking : lacks_outcome (program page flags).atoms (pick_set page flags) ≡ true → (x : Readings)
      → displayed (display_no x page flags) (shown_by x page flags) ≡ displayed (cond (eqb (pick_no page flags) 0) 14 (pick_no page flags)) NoNumber
  unfolding by_number
  lacking t x = go (ℕ_discrete (pick_no page flags) 0)
    where
      go : Dec (pick_no page flags ≡ 0)
          → displayed (display_no x page flags) (shown_by x page flags) ≡ displayed (cond (eqb (pick_no page flags) 0) 14 (pick_no page flags)) NoNumber
      go (Dec.yes k) = rw (own_number x page flags k, t, k)
      go (Dec.no n) = rw (← pick_number x page flags n, ne_eqb (pick_no page flags) 0 n, ne_eqb (pick_no page flags) 0 n)

  pub same_shown : (d e : Result Shown Refusal) → DisplaySays r page flags d → DisplaySays s page flags e
      → (OnlyOutcome (pick_set page flags) 0 → r.live ≡ s.live)
      → (OnlyOutcome (pick_set page flags) 1 → r.second ≡ s.second)
      → (OnlyOutcome (pick_set page flags) 2 → r.held ≡ s.held)
      → d ≡ e
  unfolding display_no display_refusals shown_by shown_of
  same_shown d e p q f g h = one_answered NoNumber d e (p ∙ go (lacks_outcome (program page flags).atoms (pick_set page flags)) refl ∙ sym q)
    where
      answer_of : Shown → Displayed
      answer_of y = displayed (first_that (pick_refusals page flags ++ own_refusals (program page flags).atoms (pick_set page flags) y)) y

      go : (b : Bool) → lacks_outcome (program page flags).atoms (pick_set page flags) ≡ b
          → displayed (display_no r page flags) (shown_by r page flags) ≡ displayed (display_no s page flags) (shown_by s page flags)
      go true t = lacking t r ∙ sym (lacking t s)
      go false t =
          let only = OnlyOutcome (pick_set page flags) in
          let o = chosen_one (program page flags).atoms (pick_set page flags) t in
          ap answer_of (same_at (first_of (outcomes (pick_set page flags))) (λ z. f (subst only z o)) (λ z. g (subst only z o)) (λ z. h (subst only z o)))
