-- `marks::store_each` goes from bit to bit. Assumes nothing.
use Prim.Native.Nat.{◌+◌, ◌-◌, ◌*◌}
use Rattle.lanes.proofs.Runs.{ToStore}
use Rattle.lanes.proofs.marks.store_each.Given as goal

abbrev pub invariant-loop-x : goal.invariant-loop-x
invariant-loop-x l = ToStore l.marks l.b l.initial.out l.k l.out l.x l.s l.at

abbrev pub decreases-loop-x : goal.decreases-loop-x
decreases-loop-x l = 64 * l.b + 64 - l.s
