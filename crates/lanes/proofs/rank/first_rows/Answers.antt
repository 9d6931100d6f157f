-- `rank::first_rows` goes through the grades. What is kept: the word has the rows of degree 1 before the one in hand. Assumes nothing.
use native.Mathlib.Omega.{arith}
use Rattle.lanes.proofs.FirstRows.{first_none, first_on, first_off}
use Rattle.lanes.proofs.rank.first_rows.Goals as goal
use Rattle.lanes.proofs.rank.first_rows.Goals.{then-grades-i-eq1, else-grades-i-eq1}

pub loop-i-init : goal.loop-i-init
loop-i-init c = first_none c.args.grades.now

pub loop-i-preserved : goal.loop-i-preserved
loop-i-preserved c =
    let h = c.loop-i in
    let g = c.args.grades.now in
    elim c.if-grades-i-eq1.branch [
      | then-grades-i-eq1 w ↦ rw w.x-is (first_on g h.i h.x h.invariant (omega (arith, c.requires.0)) w.if-grades-i-eq1.true)
      | else-grades-i-eq1 w ↦ rw w.x-is (first_off g h.i h.x h.invariant w.if-grades-i-eq1.false)
    ]
