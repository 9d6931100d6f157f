-- `close::pass` takes one row after the other. Assumes nothing.
use Prim.Native.Nat.{ℕ, ◌+◌, ◌*◌, ◌<◌}
use mathlib.Core.Path.{◌≡◌}
use mathlib.Core.Bool.{◌&&◌, ◌||◌}
use mathlib.Core.List.{map}
use lib.ListN.{drop}
use Rattle.atoms.specs.Atoms.{has}
use Rattle.lpod.specs.Satisfied.{satisfies_all}
use Rattle.words.specs.Coded.{rule_in, rules_in}
use Rattle.lanes.specs.Lanes.{column}
use Rattle.lanes.specs.Pass as goes
use Rattle.lanes.proofs.close.pass.Given as goal

-- what is kept says with the rows to come what all rows say
abbrev pub invariant-loop-n : goal.invariant-loop-n
invariant-loop-n l =
    record {
      ok : (j : ℕ) → j < 64 → satisfies_all (64 * l.block.number + j) (rules_in l.rules.rows.now) ≡ (has l.ok j && satisfies_all (64 * l.block.number + j) (map rule_in (drop l.n l.rules.rows.now)));
      waits : (j : ℕ) → j < 64 → goes.waits (rules_in l.rules.rows.now) (64 * l.block.number + j) (column l.initial.cur j) ≡ (has l.wait j || goes.waits (map rule_in (drop l.n l.rules.rows.now)) (64 * l.block.number + j) (column l.cur j));
      reached : (j : ℕ) → j < 64 → goes.pass (rules_in l.rules.rows.now) (64 * l.block.number + j) (column l.initial.cur j) ≡ goes.pass (map rule_in (drop l.n l.rules.rows.now)) (64 * l.block.number + j) (column l.cur j);
      grows : (j : ℕ) → j < 64 → goes.grows (rules_in l.rules.rows.now) (64 * l.block.number + j) (column l.initial.cur j) ≡ (has l.grew j || goes.grows (map rule_in (drop l.n l.rules.rows.now)) (64 * l.block.number + j) (column l.cur j));
    }
