-- What stands on the display. Atoms 0 to 3 are the outcomes live, second, held and none.
use Rattle.std.specs.Prelude.{◌≡◌, Bool, true, ◌||◌, not, List, [], ◌∷◌, ◌++◌, ℕ, zero, suc, eqb, ltb, length, Float, Option, Some, None, Result}
use Rattle.atoms.specs.Atoms.{has}
use Rattle.lpod.specs.Lists.{keep, below}
use Rattle.lpod.specs.Best.{pick}
use Rattle.page.specs.Program.{program}
use Rattle.page.specs.Refusals as lists
use Rattle.page.specs.Refusals.{refuse, first_that}
use Rattle.page.specs.Answers.{Answered, answered, by_number}
use Rattle.page.specs.declared.refusal.Refusal.{Refusal}
use Rattle.engine.specs.Calls.{set_or, pick_refusals}
use Rattle.display.specs.Readings.{finite}
use Rattle.display.specs.declared.Readings.{Readings}
use Rattle.display.specs.declared.Shown.{Shown}
use Rattle.display.specs.declared.Shown.TheVariants.{Live, Second, Held, NoNumber}

-- ---- the chosen outcome
-- the outcomes that a set holds, rising
unfoldable pub outcomes : ℕ → List ℕ
outcomes set = keep (has set) (below 4)

-- exactly one of them is chosen
unfoldable pub one_chosen : ℕ → Bool
one_chosen set = eqb (length (outcomes set)) 1

-- that one; 16, which is no atom, where there is none
unfoldable pub first_of : List ℕ → ℕ
first_of [] = 16
first_of (a ∷ l) = a

-- ---- what it shows
-- an outcome with its reading; the last one has none
unfoldable pub shown_at : ℕ → Readings → Shown
shown_at zero r = Live r.live
shown_at (suc zero) r = Second r.second
shown_at (suc (suc zero)) r = Held r.held
shown_at (suc (suc (suc n))) r = NoNumber

unfoldable pub shown_of : ℕ → Readings → Shown
shown_of set r = shown_at (first_of (outcomes set)) r

-- the reading that a case shows
unfoldable pub reading_of : Shown → Option Float
reading_of (Live x) = Some x
reading_of (Second x) = Some x
reading_of (Held x) = Some x
reading_of NoNumber = None

-- the same, and d where there is none
unfoldable pub reading_or : Float → Option Float → Float
reading_or d None = d
reading_or d (Some x) = x

-- ---- an answer by its number and what is shown. A refused call shows no number
abbrev pub Displayed : Type 0
Displayed = Answered Shown

-- with number n: what is shown; where n refuses, no number
abbrev pub displayed : ℕ → Shown → Displayed
displayed n s = by_number NoNumber n s

-- what it says, case by case: its number; the outcome that is shown, by its atom, and none where the call is refused; the reading
pub record Said : Type 0 where
  pub number : ℕ
  pub outcome : Option ℕ
  pub reading : Option Float

unfoldable pub outcome_of : ℕ → Shown → Option ℕ
outcome_of n (Live x) = Some 0
outcome_of n (Second x) = Some 1
outcome_of n (Held x) = Some 2
outcome_of zero NoNumber = Some 3
outcome_of (suc n) NoNumber = None

unfoldable pub said : Displayed → Said
said d = record { number = d.no; outcome = outcome_of d.no d.value; reading = reading_of d.value }

-- ---- the refusals of its own
-- 14: fewer than four atoms, or not exactly one of the four
unfoldable pub lacks_outcome : ℕ → ℕ → Bool
lacks_outcome atoms set = ltb atoms 4 || not (one_chosen set)

-- 15: the chosen reading is infinite or not a number
unfoldable pub fit : Option Float → Bool
fit None = true
fit (Some x) = finite x

unfoldable pub unfit : Shown → Bool
unfit s = not (fit (reading_of s))

unfoldable pub fit_no : Shown → ℕ
fit_no s = first_that (refuse 15 (unfit s) ∷ [])

unfoldable pub own_refusals : ℕ → ℕ → Shown → List lists.Refusal
own_refusals atoms set s = refuse 14 (lacks_outcome atoms set) ∷ refuse 15 (unfit s) ∷ []

-- ---- the call
-- the set that is picked, read where the pick is accepted; what it shows, read where it holds exactly one of the four
unfoldable pub pick_set : List ℕ → ℕ → ℕ
pick_set page flags = set_or 0 (pick (program page flags))

unfoldable pub shown_by : Readings → List ℕ → ℕ → Shown
shown_by r page flags = shown_of (pick_set page flags) r

-- those of the pick, then its own
unfoldable pub display_refusals : Readings → List ℕ → ℕ → List lists.Refusal
display_refusals r page flags = pick_refusals page flags ++ own_refusals (program page flags).atoms (pick_set page flags) (shown_by r page flags)

unfoldable pub display_no : Readings → List ℕ → ℕ → ℕ
display_no r page flags = first_that (display_refusals r page flags)

-- the code's answer d where the chosen outcome gives s, and that of the call
abbrev pub FitSays : Shown → Result Shown Refusal → Type 0
FitSays s d = answered NoNumber d ≡ displayed (fit_no s) s

abbrev pub DisplaySays : Readings → List ℕ → ℕ → Result Shown Refusal → Type 0
DisplaySays r page flags d = answered NoNumber d ≡ displayed (display_no r page flags) (shown_by r page flags)
