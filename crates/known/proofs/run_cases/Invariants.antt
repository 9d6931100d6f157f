-- A case has a byte or more, so each turn leaves less of the input. Assumes nothing.
use Rattle.std.proofs.Common.{length}
use Rattle.known.proofs.run_cases.Given as goal

abbrev pub invariant-loop-case : goal.invariant-loop-case
invariant-loop-case g l = Unit {0}

abbrev pub decreases-loop-case : goal.decreases-loop-case
decreases-loop-case g l = length l.left
