-- No call past those of the case is made. Assumes nothing.
use Rattle.std.proofs.Common.{◌≡◌}
use Rattle.known.proofs.run_case.Given as goal

abbrev pub invariant-loop-k : goal.invariant-loop-k
invariant-loop-k g l = l.k-end ≡ l.case.many
