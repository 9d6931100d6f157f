-- `counts_out` tests four numbers, each against its range, as `counts_out` does. Assumes nothing.
use Rattle.page.specs.Refusals.{counts_out}
use Rattle.page.proofs.ranges.counts_out.Goals as goal

pub returns : goal.returns
unfolding counts_out
returns c = cc
