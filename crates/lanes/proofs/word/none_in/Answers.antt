-- `word::none_in`: every lane is turned over. Assumes nothing.
use mathlib.Core.Path.{◌∙◌}
use Rattle.atoms.specs.Atoms.{has}
use Rattle.lanes.specs.Lanes.{column}
use Rattle.lanes.proofs.Bodies.{each_none}
use Rattle.lanes.proofs.word.none_in.Goals as goal

pub returns : goal.returns
returns c = let a = c.args in λ j l. c.in_each.ensures j l ∙ each_none a.none (column a.w.now j) j (has a.x j) l
