-- `rank::firsts` goes through the rows. What is kept: the word has every row before the one in hand in which some lane has degree 1.
-- Assumes nothing.
use Rattle.lanes.proofs.FirstRows.{FirstsTo}
use Rattle.lanes.proofs.rank.firsts.Given as goal

abbrev pub invariant-loop-n : goal.invariant-loop-n
invariant-loop-n l = FirstsTo l.rules.rows.now l.b l.among l.n l.x
