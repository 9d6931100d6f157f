-- `rank::preferred` goes through the rows. What is kept: what all rows make of where the raised atoms differ is what those from the row in hand on
-- make of what is found so far. Assumes nothing.
use mathlib.Core.Path.{◌≡◌}
use mathlib.Core.List.{map}
use lib.ListN.{drop}
use Rattle.words.specs.Coded.{rule_in, rules_in}
use Rattle.engine.specs.Rank.{rows_seen}
use Rattle.engine.proofs.rank.preferred.Given as goal

abbrev pub invariant-loop-row : goal.invariant-loop-row
invariant-loop-row l = rows_seen l.initial.found (rules_in l.rows) l.m l.n ≡ rows_seen l.found (map rule_in (drop l.row-index l.rows)) l.m l.n
