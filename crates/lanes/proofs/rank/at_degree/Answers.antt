-- `rank::at_degree` goes through the rows. What is kept: the two words, with the rows that are left, say what all rows say. Assumes nothing.
use native.Mathlib.Omega.{arith}
use Rattle.lanes.proofs.Levels.{level_start, level_here, level_there, level_end}
use Rattle.lanes.proofs.rank.at_degree.Goals as goal
use Rattle.lanes.proofs.rank.at_degree.Goals.{then-grades-n, else-grades-n}

pub loop-n-init : goal.loop-n-init
loop-n-init c = let a = c.args in level_start a.rules.rows.now a.grades.now a.block.number a.k

pub loop-n-preserved : goal.loop-n-preserved
loop-n-preserved c =
    let x = c.exact-e in
    let h = c.loop-n in
    let a = c.args in
    let r = a.rules.rows.now in
    let g = a.grades.now in
    elim c.if-grades-n.branch [
      | then-grades-n w ↦ rw (w.up-is, w.down-is) (level_here r g a.block.number a.k h.n h.up h.down x.result (omega arith) x.ensures h.invariant w.if-grades-n.true)
      | else-grades-n w ↦ rw (w.up-is, w.down-is) (level_there r g a.block.number a.k h.n h.up h.down x.result (omega arith) x.ensures h.invariant w.if-grades-n.false (omega (arith, x.type_inv)))
    ]

pub returns : goal.returns
returns c =
    let h = c.loop-n in
    let a = c.args in
    level_end a.rules.rows.now a.grades.now a.block.number a.k h.n h.up h.down c.loop-n-test.false h.invariant
