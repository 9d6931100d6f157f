use Rattle.page.specs.Fields.{end_of, pairs_at, literals_at, rows_at}
use Rattle.page.proofs.fields.end_of.Goals as goal

-- src/fields.rt:78:1
pub returns : goal.returns
unfolding end_of pairs_at literals_at rows_at
returns c = cc
