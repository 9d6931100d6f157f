-- `rows_hold` asks each row. Assumes nothing.
use Rattle.std.proofs.Common.{rules, arith}
use Rattle.std.proofs.lemmas.Grind.{common_steps}
use Rattle.lpod.specs.HereThere.{row_holds, model}
use Rattle.lpod.proofs.Each.{all_every}
use Rattle.words.specs.Coded.{rule_in, rules_in}
use Rattle.routes.proofs.here_there.rows_hold.Goals as goal

pub returns : goal.returns
unfolding model rules_in
returns c = all_every (row_holds c.args.here c.args.there) rule_in 0 c.args.rows.now c.all.result (λ e k h. grind (arith, common_steps, e, h)) (λ e. search rules)
