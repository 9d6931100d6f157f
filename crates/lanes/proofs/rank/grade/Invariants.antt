-- `rank::grade` goes through the rows. What is kept: the degrees stored so far, with those of the rows that are left, are all of them. Assumes nothing.
use mathlib.Core.Path.{◌≡◌}
use mathlib.Core.List.{map, ◌++◌}
use lib.ListN.{length, take, drop}
use Rattle.lpod.specs.Degree.{degree}
use Rattle.words.specs.Coded.{rule_in, rules_in}
use Rattle.lanes.proofs.rank.grade.Given as goal

abbrev pub invariant-loop-n : goal.invariant-loop-n
invariant-loop-n l =
    (length l.grades ≡ length l.initial.grades) × (take l.n l.grades ++ map (degree l.set) (map rule_in (drop l.n l.rows)) ≡ map (degree l.set) (rules_in l.rows))
