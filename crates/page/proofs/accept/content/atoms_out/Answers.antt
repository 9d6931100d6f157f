-- `atoms_out` answers what `atoms_out` says: its two runs are the literals and the bytes of the pairs. Assumes nothing.
use Rattle.page.specs.Refusals.{atoms_out}
use Rattle.page.proofs.accept.content.atoms_out.Goals as goal

pub returns : goal.returns
unfolding atoms_out
returns c = cc
