-- What the call that compares two answer sets answers.
use Rattle.std.specs.Prelude.{◌≡◌, ◌&&◌, not, List, [], ◌∷◌, ◌++◌, ℕ, ℤ, pos, negsuc, Result, Ok, Err}
use Rattle.lpod.specs.Answer.{answer}
use Rattle.lpod.specs.Preferred as ranks
use Rattle.page.specs.Program.{program}
use Rattle.page.specs.Refusals as lists
use Rattle.page.specs.Refusals.{refuse, first_that, set_refusals, test_refusals}
use Rattle.page.specs.Answers.{Answered, answered, by_number}
use Rattle.page.specs.declared.refusal.Refusal.{Refusal}
use Rattle.engine.specs.declared.compare.Side.{Side}
use Rattle.engine.specs.declared.compare.Side.TheVariants.{First, Second, Neither}

-- after the page, the flag word and both sets: 13 where one of them is no answer set
unfoldable pub compare_refusals : List ℕ → ℕ → ℕ → ℕ → List lists.Refusal
compare_refusals page flags first second =
    test_refusals page flags first
    ++ (set_refusals page second ++ (refuse 13 (not (answer (program page flags) first && answer (program page flags) second)) ∷ []))

unfoldable pub compare_no : List ℕ → ℕ → ℕ → ℕ → ℕ
compare_no page flags first second = first_that (compare_refusals page flags first second)

-- +1 where the first set is preferred, −1 where the second is, else 0
abbrev pub side_number : Side → ℤ
side_number First = pos 1
side_number Second = negsuc 0
side_number Neither = pos 0

-- an answer with its side as a number
abbrev pub sided : Result Side Refusal → Result ℤ Refusal
sided (Ok s) = Ok (side_number s)
sided (Err e) = Err e

-- a number and a comparison, which is 0 where the call is refused
abbrev pub Compared : Type 0
Compared = Answered ℤ

abbrev pub compared : ℕ → ℤ → Compared
compared n side = by_number (pos 0) n side

-- the statement of the call
abbrev pub CompareSays : List ℕ → ℕ → ℕ → ℕ → Result Side Refusal → Type 0
CompareSays page flags first second r =
    answered (pos 0) (sided r) ≡ compared (compare_no page flags first second) (ranks.compare (program page flags) first second)
