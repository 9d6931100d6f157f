-- `spare_byte` reads the fourth byte of row r. Assumes nothing.
use Rattle.page.specs.Fields.{spare_byte}
use Rattle.page.proofs.fields.spare_byte.Goals as goal

pub returns : goal.returns
unfolding spare_byte
returns c = c.row_byte.ensures
