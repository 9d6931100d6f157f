use Rattle.page.specs.Fields.{rows_at}
use Rattle.page.proofs.fields.rows_at.Goals as goal

-- src/fields.rt:57:1
pub returns : goal.returns
unfolding rows_at
returns c = cc
