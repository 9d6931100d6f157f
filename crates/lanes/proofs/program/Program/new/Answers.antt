-- `Program::new` takes the first 32 rows, which are all where there are no more. Assumes nothing.
use mathlib.Core.Path.{refl}
use Rattle.lanes.proofs.Listed.{take_min}
use Rattle.lanes.proofs.program.Program.new.Goals as goal

pub returns : goal.returns
returns c = (rw c.min.ensures (take_min 32 c.args.rows.now), refl, refl)
