-- `rank::at_degree` goes through the rows. What is kept: the two words, with the rows that are left, say what all rows say. Assumes nothing.
use Rattle.lanes.proofs.Levels.{Leveled}
use Rattle.lanes.proofs.rank.at_degree.Given as goal

abbrev pub invariant-loop-n : goal.invariant-loop-n
invariant-loop-n l = Leveled l.rules.rows.now l.grades l.block.number l.k l.n l.up l.down
