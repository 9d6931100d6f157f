-- `Ranking::keep_best` goes from one best set to the next. What is kept: no best set has lost its mark, the next set is marked where there is one, and
-- below it only best sets are marked. Assumes nothing.
use Prim.Native.Nat.{ℕ, ◌-◌, ◌≤◌, ◌<◌}
use lib.Dec.{T}
use Rattle.lanes.specs.Seek.{number_of}
use Rattle.lanes.specs.Marks.{marked}
use Rattle.lanes.specs.Search.{sought_best}
use Rattle.lanes.specs.Left.{Left, beats}
use Rattle.lanes.proofs.ranking.Ranking.keep_best.Given as goal

abbrev pub invariant-loop-next : goal.invariant-loop-next
invariant-loop-next l =
    (number_of l.next ≤ 65536) × (number_of l.next < 65536 → T (marked l.marks (number_of l.next))) × Left (beats l.self) l.initial.marks l.marks
    × ((x : ℕ) → x < number_of l.next → T (marked l.marks x) → T (sought_best (beats l.self) l.initial.marks x))

abbrev pub decreases-loop-next : goal.decreases-loop-next
decreases-loop-next l = 65536 - number_of l.next
