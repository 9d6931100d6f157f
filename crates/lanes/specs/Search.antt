-- The best of the sets that pass, over any relation that says which of two is preferred.
use Rattle.std.specs.Prelude.{Bool, ◌&&◌, List, ℕ}
use Rattle.lpod.specs.Best.{none_over}
use Rattle.lanes.specs.Seek.{all_from}
use Rattle.lanes.specs.Marks.{marked}

module _ (over : ℕ → ℕ → Bool) (passes : ℕ → Bool) where
  -- s passes, and no set that passes is preferred to it
  unfoldable pub best_among : ℕ → Bool
  best_among s = passes s && none_over over (all_from passes 0) s

-- these among the marked sets
abbrev pub sought_best : (ℕ → ℕ → Bool) → List ℕ → ℕ → Bool
sought_best over marks = best_among over (marked marks)
