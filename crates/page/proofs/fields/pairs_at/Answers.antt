use Rattle.page.specs.Fields.{pairs_at, literals_at, rows_at}
use Rattle.page.proofs.fields.pairs_at.Goals as goal

-- src/fields.rt:70:1
pub returns : goal.returns
unfolding pairs_at literals_at rows_at
returns c = cc
