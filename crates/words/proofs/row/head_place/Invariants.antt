-- What is kept: the place for all digits is the place for those that are left, counted on from the ones passed.
use Rattle.std.proofs.Common.{◌≡◌, ◌+◌, ◌-◌}
use Rattle.lpod.specs.Degree.{place}
use Rattle.words.specs.Coded.{rule_in, digits}
use Rattle.words.proofs.row.head_place.Given as goal

abbrev pub invariant-loop-k : goal.invariant-loop-k
invariant-loop-k l = place 1 (rule_in l.row).head l.s ≡ place (l.k + 1) (digits (l.n - l.k) l.h) l.s
