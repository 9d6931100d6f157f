-- `other_form` compares the form with 1, as `other_form` does. Assumes nothing.
use Rattle.page.specs.Refusals.{other_form}
use Rattle.page.proofs.accept.header.other_form.Goals as goal

pub returns : goal.returns
unfolding other_form
returns c = cc
