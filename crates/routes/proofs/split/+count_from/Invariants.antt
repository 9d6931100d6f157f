-- What is kept: the choice is as it was, and the total is the sum over the options passed.
use Rattle.std.proofs.Common.{◌≡◌, length}
use Rattle.words.specs.Coded.{rule_in, rules_in}
use Rattle.routes.specs.Choice.{all_chosen}
use Rattle.routes.proofs.SplitSums.{sum_below}
use Rattle.routes.proofs.SplitChoices.{with_option}
use Rattle.routes.proofs.split.+count_from.Given as goal

-- there are fewer rows
abbrev pub decreases-count_from : goal.decreases-count_from
decreases-count_from l = length l.rows.now

abbrev pub invariant-loop-option : goal.invariant-loop-option
invariant-loop-option l = record {
  kept : l.choice.items ≡ l.fn.choice.items;
  counted : l.total ≡ sum_below l.option (with_option l.flags l.set (rules_in l.rest) (rule_in l.row) (all_chosen l.fn.choice.items));
}
