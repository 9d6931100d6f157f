-- `rank::deepest` goes through the rows. What is kept: the longest head is the longest so far or one of the rows that are left. Assumes nothing.
use mathlib.Core.Path.{◌≡◌}
use mathlib.Core.List.{map}
use Prim.Native.Nat.{◌≤◌, max}
use lib.ListN.{drop}
use Rattle.lpod.specs.Preferred.{longest}
use Rattle.words.specs.Coded.{rule_in, rules_in}
use Rattle.lanes.proofs.rank.deepest.Given as goal

abbrev pub invariant-loop-word : goal.invariant-loop-word
invariant-loop-word l = (1 ≤ l.most) × (longest (rules_in l.rows) ≡ max l.most (longest (map rule_in (drop l.word-index l.rows))))
