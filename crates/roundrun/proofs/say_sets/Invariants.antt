-- The sets asked about go from the first to the last, and to no more than the first where the last is below it. Assumes nothing.
use Rattle.std.proofs.Common.{◌≡◌, ◌≤◌}
use Rattle.std.specs.Prelude.{max}
use Rattle.roundrun.proofs.say_sets.Given as goal

abbrev pub invariant-loop-set : goal.invariant-loop-set
invariant-loop-set g l = (l.first ≤ l.set) × (l.set-end ≡ max l.last l.first)
