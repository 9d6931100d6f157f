-- `neg_count` reads the third byte of row r. Assumes nothing.
use Rattle.page.specs.Fields.{neg_count}
use Rattle.page.proofs.fields.neg_count.Goals as goal

pub returns : goal.returns
unfolding neg_count
returns c = c.row_byte.ensures
