-- What an answer says by numbers: 0 where a call is accepted, and else the number of its refusal.
use Rattle.std.specs.Prelude.{cond, ℕ, eqb, Result, Ok, Err}
use Rattle.page.specs.declared.refusal.Refusal.{Refusal}
use Rattle.page.specs.declared.refusal.Refusal.TheVariants.{TooShort, OtherForm, CountsOut, Misplaced, BadCounts, AtomsOut, Unsorted, BadPairs, BitsOut, NoAnswerSet, NoRoom, TooManySplits, NotAnAnswerSet, NoOutcome, UnfitReading}

-- the number of each refusal
abbrev pub number : Refusal → ℕ
number TooShort = 1
number OtherForm = 2
number CountsOut = 3
number Misplaced = 4
number BadCounts = 5
number AtomsOut = 6
number Unsorted = 7
number BadPairs = 8
number BitsOut = 9
number NoAnswerSet = 10
number NoRoom = 11
number TooManySplits = 12
number NotAnAnswerSet = 13
number NoOutcome = 14
number UnfitReading = 15

-- the number of an answer
abbrev pub no : {A : Type 0} → Result A Refusal → ℕ
no (Ok a) = 0
no (Err e) = number e

-- ---- an answer by its number and its value. A refused call has the blank value
pub record Answered (A : Type 0) : Type 0 where
  pub no : ℕ
  pub value : A

module _ {A : Type 0} (blank : A) where
  -- what an answer of the code says
  abbrev pub answered : Result A Refusal → Answered A
  answered (Ok a) = record { no = 0; value = a }
  answered (Err e) = record { no = number e; value = blank }

  -- with number n: this value, which stands only where n is 0
  unfoldable pub by_number : ℕ → A → Answered A
  by_number n a = record { no = n; value = cond (eqb n 0) a blank }
