-- `answer::same` goes through both word by word. Assumes nothing.
use mathlib.Core.Path.{sym, ap, ◌∙◌}
use mathlib.Core.Bool.{Bool, ◌&&◌}
use native.Mathlib.Omega.{arith}
use Rattle.lanes.proofs.Words.{has_full}
use Rattle.lanes.proofs.Columns.{same_from, same_turn, same_end}
use Rattle.lanes.proofs.answer.same.Goals as goal

pub loop-k-init : goal.loop-k-init
loop-k-init c = λ j l. sym (ap (λ (b : Bool). b && same_from 0 c.args.v.now c.args.w.now j) (has_full j l))

pub loop-k-preserved : goal.loop-k-preserved
loop-k-preserved c =
    let h = c.loop-k in
    let x = c.at in
    let y = c.at-in-loop-k in
    λ j l.
    h.invariant j l ∙ same_turn c.args.v.now c.args.w.now j h.k h.acc x.result y.result (omega arith) (omega arith) x.ensures y.ensures
    (omega (arith, x.type_inv)) (omega (arith, y.type_inv)) l

pub returns : goal.returns
returns c =
    let h = c.loop-k in
    λ j l. sym (h.invariant j l ∙ same_end c.args.v.now c.args.w.now j h.k _ (omega arith) (omega arith))
