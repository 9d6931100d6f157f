-- The best sets and the pick, over any relation that says which of two is preferred. 000, after Definition 6
use Rattle.std.specs.Prelude.{Bool, ◌&&◌, not, List, [], ◌∷◌, ℕ}
use Rattle.std.proofs.Math.Option.{Option, some, none}
use Rattle.lpod.specs.Lists.{every, keep}
use Rattle.lpod.specs.Rule.{Program}
use Rattle.lpod.specs.Answer.{answer, answer_sets}
use Rattle.lpod.specs.Preferred.{preferred}

module _ {A : Type 0} (over : A → A → Bool) where
  -- none of the list is preferred to x
  unfoldable pub none_over : List A → A → Bool
  none_over l x = every (λ y. not (over y x)) l

  unfoldable pub best_of : List A → List A
  best_of l = keep (none_over l) l

-- the first of a list, if there is one
unfoldable pub first_of : {A : Type 0} → List A → Option A
first_of [] = none
first_of (x ∷ l) = some x

-- an answer set to which no answer set is preferred
unfoldable pub best : Program → ℕ → Bool
best p s = answer p s && none_over (preferred p) (answer_sets p) s

-- all of them, rising
unfoldable pub best_sets : Program → List ℕ
best_sets p = best_of (preferred p) (answer_sets p)

-- the lowest-numbered best set, or none
unfoldable pub pick : Program → Option ℕ
pick p = first_of (best_sets p)
