use Rattle.page.specs.Fields.{literals_at, rows_at}
use Rattle.page.proofs.fields.literals_at.Goals as goal

-- src/fields.rt:63:1
pub returns : goal.returns
unfolding literals_at rows_at
returns c = cc
