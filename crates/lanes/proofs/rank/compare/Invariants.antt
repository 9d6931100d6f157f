-- `rank::compare` goes through the degrees. What is kept: the lanes that won and those that lost at a degree before the one in hand,
-- and those in which all is equal up to there. Assumes nothing.
use Prim.Native.Nat.{◌-◌}
use Rattle.lanes.proofs.Levels.{ComparedTo}
use Rattle.lanes.proofs.rank.compare.Given as goal

abbrev pub invariant-loop-k : goal.invariant-loop-k
invariant-loop-k l = ComparedTo l.rules.rows.now l.grades l.b l.among (l.k - 1) l.same l.won l.lost
