-- What the split test answers. 001 section 2.2: a set is an answer set where it is one of some split program.
use Rattle.std.specs.Prelude.{◌≡◌, Bool, false, cond, List, [], ◌∷◌, ◌++◌, ℕ, ltb, eqb, Result}
use Rattle.lpod.specs.Rule.{rules}
use Rattle.lpod.specs.Split.{split_number, split_count}
use Rattle.page.specs.Program.{program}
use Rattle.page.specs.Refusals as lists
use Rattle.page.specs.Answers.{Answered, answered}
use Rattle.page.specs.declared.refusal.Refusal.{Refusal}

-- an answer by its number, how many split programs have the set as answer set, and whether one has
pub record Split : Type 0 where
  pub no : ℕ
  pub count : ℕ
  pub yes : Bool

-- what an answer of the code says: yes where it counts one
abbrev pub with_yes : Answered ℕ → Split
with_yes a = record { no = a.no; count = a.value; yes = ltb 0 a.value }

-- 12: more than 4,096 split programs
unfoldable pub too_many : List ℕ → ℕ → Bool
too_many page flags = ltb 4096 (split_number (rules (program page flags)))

-- the refusals of every test of a set, then 12
unfoldable pub split_refusals : List ℕ → ℕ → ℕ → List lists.Refusal
split_refusals page flags set = lists.test_refusals page flags set ++ (lists.refuse 12 (too_many page flags) ∷ [])

unfoldable pub split_no : List ℕ → ℕ → ℕ → ℕ
split_no page flags set = lists.first_that (split_refusals page flags set)

-- accepted: how many split programs have the set as answer set, and yes where one has
unfoldable pub counted : ℕ → Split
counted n = record { no = 0; count = n; yes = ltb 0 n }

-- refused: the number, with count 0 and no
unfoldable pub uncounted : ℕ → Split
uncounted n = record { no = n; count = 0; yes = false }

unfoldable pub split_test : List ℕ → ℕ → ℕ → Split
split_test page flags set = cond (eqb (split_no page flags set) 0) (counted (split_count (program page flags) set)) (uncounted (split_no page flags set))

-- the statement of the call
abbrev pub SplitSays : List ℕ → ℕ → ℕ → Result ℕ Refusal → Type 0
SplitSays page flags set r = with_yes (answered 0 r) ≡ split_test page flags set
