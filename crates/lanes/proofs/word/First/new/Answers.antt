-- `First::new`: the table. Assumes nothing.
use Rattle.lanes.proofs.Words.{block_zero}
use Rattle.lanes.proofs.word.First.new.Goals as goal

pub invariant_of-result : goal.invariant_of-result
invariant_of-result c = record { made = block_zero }
