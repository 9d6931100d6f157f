-- `reduct::least_of` makes rounds from the empty set. What is kept: the set reached lies inside every closed set. It stops where a round adds
-- nothing, which is closed, or at `set` itself, which is closed under its own reduct; either is the least. Each round but the last gives
-- a larger number. Assumes nothing.
use Prim.Native.Nat.{◌-◌}
use Rattle.lpod.specs.Reduct.{reduct}
use Rattle.words.specs.Coded.{rules_with}
use Rattle.routes.proofs.Rounds.{Smallest}
use Rattle.routes.proofs.reduct.least_of.Given as goal

abbrev pub invariant-loop-s : goal.invariant-loop-s
invariant-loop-s l = Smallest (reduct (rules_with l.rows l.flags) l.set) l.s

abbrev pub decreases-loop-s : goal.decreases-loop-s
decreases-loop-s l = 65536 - l.s
