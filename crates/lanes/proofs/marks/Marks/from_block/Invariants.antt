-- `marks::Marks::from_block` goes from block to block. What is kept: the least marked set from block b on is the least from block c on, and block c lies
-- between low and high where it is one. Past the last word no set is marked. Assumes nothing.
use mathlib.Core.Path.{◌≡◌}
use Prim.Native.Nat.{◌-◌, ◌*◌, ◌≤◌, ◌<◌}
use lib.Dec.{T}
use Rattle.atoms.specs.Atoms.{inside}
use Rattle.lanes.specs.Seek.{next_from}
use Rattle.lanes.specs.Marks.{marked}
use Rattle.lanes.proofs.marks.Marks.from_block.Given as goal

abbrev pub invariant-loop-c : goal.invariant-loop-c
invariant-loop-c l =
    (l.c ≤ 1024) × (l.c < 1024 → T (inside l.self.span.low l.c) × T (inside l.c l.self.span.high)) × (next_from (marked l.self.words.now) (64 * l.b) ≡ next_from (marked l.self.words.now) (64 * l.c))

abbrev pub decreases-loop-c : goal.decreases-loop-c
decreases-loop-c l = 1024 - l.c
