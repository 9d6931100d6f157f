-- `marks::store_run` counts up. What is kept: the numbers that are left, stored from their place on, leave what all of them do. Assumes nothing.
use mathlib.Core.Path.{◌≡◌, sym, ◌∙◌}
use Prim.Native.Nat.{◌+◌}
use native.Mathlib.Omega.{arith}
use lib.ListN.{length-set}
use Rattle.lanes.proofs.Stored.{run_more, run_done}
use Rattle.lanes.proofs.marks.store_run.Goals as goal

pub loop-n-preserved : goal.loop-n-preserved
loop-n-preserved c =
    let h = c.loop-n in
    let a = c.args in
    let f : a.k + (h.n + 1) ≡ a.k + h.n + 1 = omega arith in
    let g : a.i + (h.n + 1) ≡ a.i + h.n + 1 = omega arith in
    (length-set h.out (a.k + h.n) (a.i + h.n) ∙ h.invariant.0, h.invariant.1 ∙ rw (f, g) (run_more h.out (a.k + h.n) (a.i + h.n) _ (omega arith)))

pub returns : goal.returns
returns c =
    let h = c.loop-n in
    let a = c.args in
    sym (h.invariant.1 ∙ run_done h.out (a.k + h.n) (a.i + h.n) _ (omega arith))
