-- `degrees::store` goes through the rows. What is kept: storing all degrees from the start of the slice as it was comes to storing those of the rows
-- that are left into the slice as it is. Assumes nothing.
use mathlib.Core.Path.{◌≡◌}
use mathlib.Core.List.{map}
use lib.ListN.{drop}
use lib.Seq.{sets}
use Rattle.lpod.specs.Degree.{degree}
use Rattle.words.specs.Coded.{rule_in, rules_in}
use Rattle.engine.proofs.degrees.store.Given as goal

abbrev pub invariant-loop-n : goal.invariant-loop-n
invariant-loop-n l =
    sets l.initial.out 0 (map (degree l.set) (rules_in l.rows)) ≡ sets l.out l.n (map (degree l.set) (map rule_in (drop l.n l.rows)))
