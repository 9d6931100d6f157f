-- What is kept: s is inside every closed set. A round that adds something gives a larger number, and that cannot go on above 16 bits.
use Prim.Native.Nat.{◌-◌}
use Rattle.lpod.specs.Split.{gl_reduct}
use Rattle.routes.specs.Choice.{program_of}
use Rattle.routes.proofs.Rounds.{Smallest}
use Rattle.routes.proofs.split.least_closed.Given as goal

abbrev pub invariant-loop-s : goal.invariant-loop-s
invariant-loop-s l = Smallest (gl_reduct (program_of l.choice l.flags) l.set) l.s

abbrev pub decreases-loop-s : goal.decreases-loop-s
decreases-loop-s l = 65536 - l.s
