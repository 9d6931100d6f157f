-- No row past those below the number is asked for. Assumes nothing.
use Rattle.std.proofs.Common.{◌≤◌}
use Rattle.known.proofs.calls.rows.Given as goal

abbrev pub invariant-loop-n : goal.invariant-loop-n
invariant-loop-n g l = l.n ≤ l.below
