-- `sets::listed` counts, and stores where there is room. Assumes nothing.
use native.Mathlib.Omega.{arith}
use Rattle.lanes.proofs.Listed.{found_short, found_stored}
use Rattle.lanes.proofs.sets.listed.Goals as goal

pub returns-then-out-count : goal.returns-then-out-count
returns-then-out-count c =
    let n = c.count-count in
    found_short _ _ n.result n.ensures (omega (arith, c.if-out-count.true, n.ensures))

pub returns : goal.returns
returns c =
    let n = c.count-count in
    found_stored _ _ n.result n.ensures (omega (arith, c.if-out-count.false, n.ensures)) _ c.store.ensures
