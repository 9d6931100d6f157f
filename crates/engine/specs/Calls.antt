-- What the calls over all answer sets give: list, best and pick, refused or accepted.
use Rattle.std.specs.Prelude.{◌≡◌, Bool, true, false, List, [], ◌∷◌, ◌++◌, ℕ, ltb, length, Result}
use Rattle.std.proofs.Math.Option.{Option, some, none}
use Rattle.lpod.specs.Answer.{answer_sets}
use Rattle.lpod.specs.Best.{best_sets, pick}
use Rattle.page.specs.Program.{program}
use Rattle.page.specs.Refusals as lists
use Rattle.page.specs.Refusals.{refuse, first_that, flag_refusals}
use Rattle.page.specs.Answers.{Answered, answered, by_number}
use Rattle.page.specs.declared.refusal.Refusal.{Refusal}
use Rattle.lanes.specs.Entries.{stored}

-- ---- a list into lent memory
-- 1 to 9, then 11: shorter than the list
unfoldable pub list_refusals : List ℕ → ℕ → List ℕ → List ℕ → List lists.Refusal
list_refusals page flags sets out = flag_refusals page flags ++ (refuse 11 (ltb (length out) (length sets)) ∷ [])

unfoldable pub list_no : List ℕ → ℕ → List ℕ → List ℕ → ℕ
list_no page flags sets out = first_that (list_refusals page flags sets out)

-- with number n: how many sets there are; where n refuses, 0
abbrev pub Listed : Type 0
Listed = Answered ℕ

abbrev pub listed : ℕ → List ℕ → Listed
listed n sets = by_number 0 n (length sets)

-- the answer r of a call that lists `sets`, and the lent slice afterwards
abbrev pub SetsSay : List ℕ → List ℕ → ℕ → List ℕ → Result ℕ Refusal → List ℕ → Type 0
SetsSay sets page flags out r after =
    (answered 0 r ≡ listed (list_no page flags sets out) sets) × (after ≡ stored (list_no page flags sets out) sets out)

-- all answer sets; the best of them
abbrev pub ListSays : List ℕ → ℕ → List ℕ → Result ℕ Refusal → List ℕ → Type 0
ListSays page flags out r after = SetsSay (answer_sets (program page flags)) page flags out r after

abbrev pub BestSays : List ℕ → ℕ → List ℕ → Result ℕ Refusal → List ℕ → Type 0
BestSays page flags out r after = SetsSay (best_sets (program page flags)) page flags out r after

-- ---- the pick
-- 1 to 9, then 10: no answer set
unfoldable pub is_empty : List ℕ → Bool
is_empty [] = true
is_empty (x ∷ l) = false

unfoldable pub pick_refusals : List ℕ → ℕ → List lists.Refusal
pick_refusals page flags = flag_refusals page flags ++ (refuse 10 (is_empty (answer_sets (program page flags))) ∷ [])

unfoldable pub pick_no : List ℕ → ℕ → ℕ
pick_no page flags = first_that (pick_refusals page flags)

-- the set that is picked; 0 where the call is refused
unfoldable pub set_or : ℕ → Option ℕ → ℕ
set_or d none = d
set_or d (some s) = s

abbrev pub Picked : Type 0
Picked = Answered ℕ

abbrev pub picked : ℕ → Option ℕ → Picked
picked n found = by_number 0 n (set_or 0 found)

abbrev pub PickSays : List ℕ → ℕ → Result ℕ Refusal → Type 0
PickSays page flags r = answered 0 r ≡ picked (pick_no page flags) (pick (program page flags))
