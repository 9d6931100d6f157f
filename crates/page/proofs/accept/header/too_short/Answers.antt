-- `too_short` compares the lent length with the header's, as `short` does. Assumes nothing.
use Rattle.page.specs.Refusals.{short}
use Rattle.page.proofs.accept.header.too_short.Goals as goal

pub returns : goal.returns
unfolding short
returns c = cc
