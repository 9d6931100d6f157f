-- `answer::pair_held`: both words together. Assumes nothing.
use mathlib.Core.Path.{◌∙◌}
use Rattle.atoms.proofs.Bits.{has_and}
use Rattle.words.specs.Coded.{pair_in}
use Rattle.lanes.proofs.answer.pair_held.Goals as goal

pub returns : goal.returns
unfolding pair_in
returns c = λ j l. has_and c.held.result c.held-2.result j ∙ rw (c.held.ensures j l, c.held-2.ensures j l)
