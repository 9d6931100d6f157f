-- `rows_fire` lets one row fire after the other. Assumes nothing.
use Rattle.std.proofs.Common.{rules, ◌≡◌, ◌∙◌, ℕ}
use Rattle.std.specs.List.{fold}
use Rattle.lpod.specs.Reduct.{reduct_row}
use Rattle.lpod.specs.Least.{fire}
use Rattle.words.specs.Coded.{rule_in}
use Rattle.routes.proofs.Rounds.{all_fire}
use Rattle.routes.proofs.reduct.rows_fire.Goals as goal

pub returns : goal.returns
returns c =
    let a = c.args in
    let e : c.fold.result ≡ fold (λ (t w : ℕ). fire (reduct_row (rule_in w) a.set) a.s t) a.s a.rows.now = search rules in
    e ∙ all_fire a.rows.now a.set a.s a.s
