-- `Kept::add_ranking` goes through the rows. What is kept: the rows kept so far, with those that rank among the rows left, are all that rank.
-- Assumes nothing.
use mathlib.Core.Path.{◌≡◌}
use mathlib.Core.List.{◌++◌}
use Prim.Native.Nat.{◌≤◌}
use lib.ListN.{take, drop}
use Rattle.lpod.specs.Lists.{keep}
use Rattle.lanes.specs.Rank.{ranks}
use Rattle.lanes.proofs.rank.Kept.add_ranking.Given as goal

abbrev pub invariant-loop-n : goal.invariant-loop-n
invariant-loop-n l =
    (l.self.count ≤ l.n) × (take l.self.count l.self.rows ++ keep ranks (drop l.n l.rules.rows.now) ≡ keep ranks l.rules.rows.now)
