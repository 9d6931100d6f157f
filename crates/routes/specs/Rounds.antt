-- What the count of rounds answers: the number of the first refusal, and how long a chain of reasons leads to the set; a refused call says 0.
use Rattle.std.specs.Prelude.{◌≡◌, List, ℕ, Result}
use Rattle.lpod.specs.Chain.{chain_to}
use Rattle.page.specs.Program.{program}
use Rattle.page.specs.Refusals.{test_no}
use Rattle.page.specs.Answers.{Answered, answered, by_number}
use Rattle.page.specs.declared.refusal.Refusal.{Refusal}

abbrev pub Counted : Type 0
Counted = Answered ℕ

-- of any set, an answer set or not
unfoldable pub rounds_to : List ℕ → ℕ → ℕ → Counted
rounds_to page flags set = by_number 0 (test_no page flags set) (chain_to (program page flags) set)

-- the statement of the call
abbrev pub RoundsSays : List ℕ → ℕ → ℕ → Result ℕ Refusal → Type 0
RoundsSays page flags set r = answered 0 r ≡ rounds_to page flags set
