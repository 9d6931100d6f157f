-- `marks::Marks::count` goes from block to block. What is kept: the sets counted, with those from block b on, are all, and block b lies between low and
-- high where it is one. Past the last word no set is marked. Assumes nothing.
use mathlib.Core.Path.{◌≡◌}
use Prim.Native.Nat.{◌+◌, ◌-◌, ◌*◌, ◌≤◌, ◌<◌}
use lib.Dec.{T}
use lib.ListN.{length}
use Rattle.atoms.specs.Atoms.{inside}
use Rattle.lanes.specs.Seek.{all_from}
use Rattle.lanes.specs.Marks.{marked}
use Rattle.lanes.proofs.marks.Marks.count.Given as goal

abbrev pub invariant-loop-b : goal.invariant-loop-b
invariant-loop-b l =
    (l.b ≤ 1024) × (l.b < 1024 → T (inside l.self.span.low l.b) × T (inside l.b l.self.span.high))
    × (length (all_from (marked l.self.words.now) 0) ≡ l.n + length (all_from (marked l.self.words.now) (64 * l.b)))

abbrev pub decreases-loop-b : goal.decreases-loop-b
decreases-loop-b l = 1024 - l.b
