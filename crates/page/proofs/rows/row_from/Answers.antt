-- `rows::row_from` reads the three counts of row n: straight from the page where it has the row, else one by one. Assumes nothing.
use Rattle.page.specs.Fields.{rows_at, head_count, pos_count, neg_count}
use Rattle.page.specs.Rows.{row_from}
use Rattle.page.proofs.rows.row_from.Goals as goal

pub returns-then-at-page : goal.returns-then-at-page
unfolding row_from head_count pos_count neg_count rows_at
returns-then-at-page c = cc

pub returns : goal.returns
unfolding row_from
returns c = cc
