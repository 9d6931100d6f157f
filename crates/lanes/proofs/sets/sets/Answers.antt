-- `sets::sets`: the program is of the first 32 rows. Assumes nothing.
use Rattle.lanes.specs.Sets.{program_of}
use Rattle.lanes.proofs.sets.sets.Goals as goal

pub returns-then-words-le4 : goal.returns-then-words-le4
unfolding program_of
returns-then-words-le4 c = let e = c.new-p.ensures in rw (← e.0, ← e.1, ← e.2) c.sets_in.ensures

pub returns : goal.returns
unfolding program_of
returns c = let e = c.new-p.ensures in rw (← e.0, ← e.1, ← e.2) c.sets_in-2.ensures
