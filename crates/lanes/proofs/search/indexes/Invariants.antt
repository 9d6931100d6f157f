-- `search::indexes` makes the index block by block, where there is more than one. What is kept: it is right below block b, and block b lies between
-- low and high where it has marks. Assumes nothing.
use mathlib.Core.Path.{◌≡◌}
use Prim.Native.Nat.{◌-◌, ◌<◌}
use lib.Dec.{T}
use lib.ListN.{length}
use Rattle.atoms.specs.Atoms.{inside}
use Rattle.lanes.proofs.Index.{IndexTo}
use Rattle.lanes.proofs.search.indexes.Given as goal

abbrev pub invariant-loop-b : goal.invariant-loop-b
invariant-loop-b l =
    (l.b < 65536) × (l.b < length l.marks.words.now → T (inside l.marks.span.low l.b) × T (inside l.b l.marks.span.high)) × (length l.index ≡ length l.initial.index) × IndexTo l.rules.rows.now l.index l.marks.words.now l.b

abbrev pub decreases-loop-b : goal.decreases-loop-b
decreases-loop-b l = 65536 - l.b
