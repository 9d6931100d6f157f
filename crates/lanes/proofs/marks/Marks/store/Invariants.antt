-- `marks::Marks::store` goes from block to block. What is kept: the sets from block b on, stored from k on, leave what all of them do from the start on;
-- there is room for them; and block b lies between low and high where it is one. Past the last word no set is marked. Assumes nothing.
use mathlib.Core.Path.{◌≡◌}
use Prim.Native.Nat.{◌+◌, ◌-◌, ◌*◌, ◌≤◌, ◌<◌}
use lib.Dec.{T}
use lib.ListN.{length}
use lib.Seq.{sets}
use Rattle.atoms.specs.Atoms.{inside}
use Rattle.lanes.specs.Seek.{all_from}
use Rattle.lanes.specs.Marks.{marked}
use Rattle.lanes.proofs.marks.Marks.store.Given as goal

abbrev pub invariant-loop-b : goal.invariant-loop-b
invariant-loop-b l =
    (l.b ≤ 1024) × (l.b < 1024 → T (inside l.self.span.low l.b) × T (inside l.b l.self.span.high)) × (length l.out ≡ length l.initial.out)
    × (length (all_from (marked l.self.words.now) 0) ≡ l.k + length (all_from (marked l.self.words.now) (64 * l.b)))
    × (sets l.initial.out 0 (all_from (marked l.self.words.now) 0) ≡ sets l.out l.k (all_from (marked l.self.words.now) (64 * l.b)))

abbrev pub decreases-loop-b : goal.decreases-loop-b
decreases-loop-b l = 1024 - l.b
