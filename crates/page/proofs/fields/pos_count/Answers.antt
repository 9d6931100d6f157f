-- `pos_count` reads the second byte of row r. Assumes nothing.
use Rattle.page.specs.Fields.{pos_count}
use Rattle.page.proofs.fields.pos_count.Goals as goal

pub returns : goal.returns
unfolding pos_count
returns c = c.row_byte.ensures
