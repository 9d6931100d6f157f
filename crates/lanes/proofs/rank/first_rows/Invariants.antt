-- `rank::first_rows` goes through the grades. What is kept: the word has the rows of degree 1 before the one in hand. Assumes nothing.
use Rattle.lanes.proofs.FirstRows.{FirstTo}
use Rattle.lanes.proofs.rank.first_rows.Given as goal

abbrev pub invariant-loop-i : goal.invariant-loop-i
invariant-loop-i l = FirstTo l.grades l.i l.x
