-- `row_byte` reads byte k of row r: rows are four bytes each from where they start. Assumes nothing.
use Rattle.page.specs.Fields.{rows_at}
use Rattle.page.proofs.fields.row_byte.Goals as goal

pub returns : goal.returns
unfolding rows_at
returns c = cc
