-- What is kept: the product so far is at most 4,096, and times the number of the rows left it is the whole number.
use mathlib.Core.Path.{◌≡◌}
use mathlib.Core.List.{map}
use Prim.Native.Nat.{◌*◌, ◌≤◌}
use lib.ListN.{drop}
use Rattle.lpod.specs.Split.{split_number}
use Rattle.words.specs.Coded.{rule_in, rules_in}
use Rattle.routes.proofs.split.too_many.Given as goal

abbrev pub invariant-loop-row : goal.invariant-loop-row
invariant-loop-row l = record {
  small : l.number ≤ 4096;
  product : split_number (rules_in l.rows) ≡ l.number * split_number (map rule_in (drop l.row-index l.rows));
}
