-- `literals_of` adds the three counts of row r, which are bytes, so the sum fits. Assumes nothing.
use Rattle.page.specs.Fields.{literals_of}
use Rattle.page.proofs.fields.literals_of.Goals as goal

pub returns : goal.returns
unfolding literals_of
returns c = cc
