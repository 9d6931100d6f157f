-- `word::block_words`: from the table of block 0. Assumes nothing.
use Rattle.lanes.proofs.Words.{block_zero}
use Rattle.lanes.proofs.word.block_words.Goals as goal

pub to_block-requires : goal.to_block-requires
to_block-requires c = (c.requires, block_zero)
