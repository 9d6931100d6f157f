-- What the tests of one set answer: the number of the first refusal, and yes or no; a refused test says no.
use Rattle.std.specs.Prelude.{◌≡◌, Bool, false, List, ℕ, Result}
use Rattle.lpod.specs.Answer.{answer}
use Rattle.lpod.specs.HereThere.{here_there}
use Rattle.page.specs.Program.{program}
use Rattle.page.specs.Refusals.{test_no}
use Rattle.page.specs.Answers.{Answered, answered, by_number}
use Rattle.page.specs.declared.refusal.Refusal.{Refusal}

abbrev pub Verdict : Type 0
Verdict = Answered Bool

-- is the set an answer set, by the reduct; by here-and-there
unfoldable pub reduct_test : List ℕ → ℕ → ℕ → Verdict
reduct_test page flags set = by_number false (test_no page flags set) (answer (program page flags) set)

unfoldable pub here_there_test : List ℕ → ℕ → ℕ → Verdict
here_there_test page flags set = by_number false (test_no page flags set) (here_there (program page flags) set)

-- the statements of the two calls
abbrev pub ReductSays : List ℕ → ℕ → ℕ → Result Bool Refusal → Type 0
ReductSays page flags set r = answered false r ≡ reduct_test page flags set

abbrev pub HereThereSays : List ℕ → ℕ → ℕ → Result Bool Refusal → Type 0
HereThereSays page flags set r = answered false r ≡ here_there_test page flags set
