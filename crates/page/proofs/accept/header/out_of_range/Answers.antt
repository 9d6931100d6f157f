-- `out_of_range` tests the four counts of the header, as `out_of_range` does. Assumes nothing.
use Rattle.page.specs.Refusals.{out_of_range}
use Rattle.page.proofs.accept.header.out_of_range.Goals as goal

pub returns : goal.returns
unfolding out_of_range
returns c = cc
