-- `read::pair_total`: the smaller of the page's pair count and 8. Assumes nothing.
use native.Mathlib.Omega.{arith}
use mathlib.Core.Path.{◌∙◌}
use Rattle.words.specs.Coded.{pair_total}
use Rattle.words.proofs.Totals.{min_at_most}
use Rattle.words.proofs.read.pair_total.Goals as goal

pub returns : goal.returns
unfolding pair_total
returns c = (c.min.ensures ∙ min_at_most _ _ 8 (c.from.ensures ∙ c.pair_count.ensures), omega arith)
