-- What the call for the degrees of an answer set answers, and what it leaves in the lent slice.
use Rattle.std.specs.Prelude.{◌≡◌, not, cond, List, [], ◌∷◌, ◌++◌, ℕ, eqb, ltb, length, Result}
use Rattle.lpod.specs.Answer.{answer}
use Rattle.lpod.specs.Degree.{degrees}
use Rattle.page.specs.Fields.{row_count}
use Rattle.page.specs.Program.{program}
use Rattle.page.specs.Refusals as lists
use Rattle.page.specs.Refusals.{refuse, first_that, test_refusals}
use Rattle.page.specs.Answers.{Answered, answered, by_number}
use Rattle.page.specs.declared.refusal.Refusal.{Refusal}
use Rattle.lanes.specs.Entries.{over}

-- after the page, the flag word and the set: 11 where there is room for fewer degrees than the page has rows, then 13 where the set is no answer set
unfoldable pub degrees_refusals : List ℕ → ℕ → ℕ → ℕ → List lists.Refusal
degrees_refusals page flags set room =
    test_refusals page flags set ++ (refuse 11 (ltb room (row_count page)) ∷ refuse 13 (not (answer (program page flags) set)) ∷ [])

unfoldable pub degrees_no : List ℕ → ℕ → ℕ → ℕ → ℕ
degrees_no page flags set room = first_that (degrees_refusals page flags set room)

-- a number and a count, which is 0 where the call is refused
abbrev pub Graded : Type 0
Graded = Answered ℕ

abbrev pub graded : ℕ → ℕ → Graded
graded n count = by_number 0 n count

-- the slice afterwards: the degrees of the page's rows from its start, and unchanged where the call is refused
unfoldable pub degrees_after : List ℕ → ℕ → ℕ → List ℕ → List ℕ
degrees_after page flags set out = cond (eqb (degrees_no page flags set (length out)) 0) (over (degrees (program page flags) set) out) out

-- the statement of the call: its answer, and the slice afterwards
abbrev pub DegreesSays : List ℕ → ℕ → ℕ → List ℕ → List ℕ → Result ℕ Refusal → Type 0
DegreesSays page flags set out after r =
    (answered 0 r ≡ graded (degrees_no page flags set (length out)) (row_count page)) × (after ≡ degrees_after page flags set out)
