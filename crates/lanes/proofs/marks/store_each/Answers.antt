-- `marks::store_each` goes from bit to bit: each is a run of one. Assumes nothing.
use Rattle.std.proofs.Common.{◌+◌, arith}
use lib.Count.{count_trailing_zeros}
use Rattle.lanes.proofs.Runs.{one_here, run_room, run_turn, one_stored, one_left, all_stored}
use Rattle.lanes.proofs.marks.store_each.Goals as goal

pub overflow_cast-out : goal.overflow_cast-out
overflow_cast-out c = let r = one_here c.loop-x.invariant (c.type_inv.marks c.args.b).fits c.loop-x-test.true in omega arith

pub bounds-out-at : goal.bounds-out-at
bounds-out-at c =
    let h = c.loop-x.invariant in
    omega (arith, h.long, run_room h (one_here h (c.type_inv.marks c.args.b).fits c.loop-x-test.true))

pub loop-x-preserved : goal.loop-x-preserved
loop-x-preserved c =
    let h = c.loop-x in
    let r = one_here h.invariant (c.type_inv.marks c.args.b).fits c.loop-x-test.true in
    run_turn h.invariant r _ _ (one_stored h.out h.at (h.s + count_trailing_zeros 64 h.x)) (one_left r)

pub returns : goal.returns
returns c = all_stored c.loop-x.invariant c.loop-x-test.false
