-- `Ranking::climb`. What is kept: c is marked, and no best set has lost its mark. With each step fewer sets are preferred to c. Assumes nothing.
use Prim.Native.Nat.{◌<◌}
use lib.Dec.{T}
use lib.ListN.{length}
use Rattle.lanes.specs.Seek.{all_from}
use Rattle.lanes.specs.Marks.{marked}
use Rattle.lanes.specs.Left.{Left, rival, beats}
use Rattle.lanes.proofs.ranking.Ranking.climb.Given as goal

abbrev pub invariant-loop-k : goal.invariant-loop-k
invariant-loop-k l = (l.c < 65536) × T (marked l.marks l.c) × Left (beats l.self) l.initial.marks l.marks

abbrev pub decreases-loop-k : goal.decreases-loop-k
decreases-loop-k l = length (all_from (rival (beats l.self) l.marks l.c) 0)
