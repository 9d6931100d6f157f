-- `Ranking::settle` goes from one marked set to a later one. What is kept: no best set has lost its mark, s is marked, and nothing from m on up to s
-- is marked any more. Assumes nothing.
use Prim.Native.Nat.{◌-◌, ◌≤◌, ◌<◌}
use lib.Dec.{T}
use Rattle.lanes.specs.Marks.{marked}
use Rattle.lanes.specs.Left.{Left, beats}
use Rattle.lanes.proofs.Seek.{NoneBetween}
use Rattle.lanes.proofs.ranking.Ranking.settle.Given as goal

abbrev pub invariant-loop-n : goal.invariant-loop-n
invariant-loop-n l = (l.m ≤ l.s) × (l.s < 65536) × T (marked l.marks l.s) × Left (beats l.self) l.initial.marks l.marks × NoneBetween (marked l.marks) l.m l.s

abbrev pub decreases-loop-n : goal.decreases-loop-n
decreases-loop-n l = 65536 - l.s
