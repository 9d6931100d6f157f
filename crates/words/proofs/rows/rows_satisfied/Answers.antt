-- `rows_satisfied` asks each row. Assumes nothing.
use Rattle.std.proofs.Common.{rules, arith}
use Rattle.std.proofs.lemmas.Grind.{common_steps}
use Rattle.lpod.specs.Satisfied.{satisfies, satisfies_all}
use Rattle.lpod.proofs.Each.{all_every}
use Rattle.words.specs.Coded.{rule_in, rules_in}
use Rattle.words.proofs.rows.rows_satisfied.Goals as goal

pub returns : goal.returns
unfolding satisfies_all rules_in
returns c = all_every (satisfies c.args.s) rule_in 0 c.args.rows.now c.all.result (λ e k h. grind (arith, common_steps, e, h)) (λ e. search rules)
