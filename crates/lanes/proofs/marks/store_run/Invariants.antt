-- `marks::store_run` counts up. What is kept: the numbers that are left, stored from their place on, leave what all of them do. Assumes nothing.
use mathlib.Core.Path.{◌≡◌}
use Prim.Native.Nat.{◌+◌, ◌-◌}
use lib.ListN.{length}
use lib.Seq.{sets}
use Rattle.lpod.specs.Lists.{numbers}
use Rattle.lanes.proofs.marks.store_run.Given as goal

abbrev pub invariant-loop-n : goal.invariant-loop-n
invariant-loop-n l =
    (length l.out ≡ length l.initial.out) × (sets l.initial.out l.k (numbers l.i l.many) ≡ sets l.out (l.k + l.n) (numbers (l.i + l.n) (l.i + l.many - (l.i + l.n))))
