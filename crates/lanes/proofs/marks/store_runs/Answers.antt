-- `marks::store_runs` goes from run to run. Assumes nothing.
use Rattle.std.proofs.Common.{arith}
use Rattle.lanes.proofs.Runs.{run_here, run_room, run_turn, all_stored}
use Rattle.lanes.proofs.marks.store_runs.Goals as goal

pub store_run-requires : goal.store_run-requires
store_run-requires c =
    let h = c.loop-x.invariant in
    let r = run_here h (c.type_inv.marks c.args.b).fits c.loop-x-test.true in
    let n = run_room h r in
    (omega arith, omega (arith, h.long), omega arith)

pub overflow_sub-x : goal.overflow_sub-x
overflow_sub-x c = let r = run_here c.loop-x.invariant (c.type_inv.marks c.args.b).fits c.loop-x-test.true in omega arith

pub loop-x-smaller : goal.loop-x-smaller
loop-x-smaller c = let r = run_here c.loop-x.invariant (c.type_inv.marks c.args.b).fits c.loop-x-test.true in omega arith

pub loop-x-preserved : goal.loop-x-preserved
loop-x-preserved c =
    let h = c.loop-x.invariant in
    let r = run_here h (c.type_inv.marks c.args.b).fits c.loop-x-test.true in
    run_turn h r _ _ c.store_run.ensures r.left

pub returns : goal.returns
returns c = all_stored c.loop-x.invariant c.loop-x-test.false
