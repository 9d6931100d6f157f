-- `read::row_total`: the smaller of the page's row count and 32. Assumes nothing.
use native.Mathlib.Omega.{arith}
use mathlib.Core.Path.{◌∙◌}
use Rattle.words.specs.Coded.{row_total}
use Rattle.words.proofs.Totals.{min_at_most}
use Rattle.words.proofs.read.row_total.Goals as goal

pub returns : goal.returns
unfolding row_total
returns c = (c.min.ensures ∙ min_at_most _ _ 32 (c.from.ensures ∙ c.row_count.ensures), omega arith)
