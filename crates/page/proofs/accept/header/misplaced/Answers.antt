-- `misplaced` compares the three offsets and the whole length, in widths where no sum wraps, as `misplaced` of the definitions does. Assumes nothing.
use Rattle.page.specs.Refusals.{misplaced}
use Rattle.page.proofs.accept.header.misplaced.Goals as goal

pub returns : goal.returns
unfolding misplaced
returns c = cc
