-- No more are counted than were passed, and no set past those below the number is asked about. Assumes nothing.
use Rattle.std.proofs.Common.{◌≤◌}
use Rattle.known.proofs.calls.agreement.Given as goal

abbrev pub invariant-loop-set : goal.invariant-loop-set
invariant-loop-set l = record { to : l.set ≤ l.below; agreed : l.agreed ≤ l.set; answers : l.answers ≤ l.set }
