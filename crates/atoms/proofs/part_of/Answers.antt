-- `atoms::part_of` makes the test that `inside` is. Assumes nothing.
use Rattle.std.proofs.Common.{rules}
use Rattle.atoms.specs.Atoms.{inside}
use Rattle.atoms.proofs.part_of.Goals as goal

pub returns : goal.returns
unfolding inside
returns c = search rules
