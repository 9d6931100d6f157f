-- `rounds` refuses the call, or counts by the words of its page. Assumes nothing.
use mathlib.Core.Path.{ap, ◌∙◌}
use mathlib.Core.List.{List}
use Rattle.lpod.specs.Rule.{Rule}
use Rattle.lpod.specs.Reduct.{reduct}
use Rattle.lpod.specs.Chain.{chain, chain_to}
use Rattle.page.proofs.Refusing.{refused_before, given}
use Rattle.words.proofs.Lent.{lent_rules, test_page}
use Rattle.routes.specs.Rounds.{rounds_to}
use Rattle.routes.proofs.reduct.rounds.Goals as goal

pub returns-in_err-check_test : goal.returns-in_err-check_test
unfolding rounds_to
returns-in_err-check_test c = refused_before _ _ _ _ _ c.from_residual.ensures.1 c.in_err-check_test.ensures

pub returns : goal.returns
unfolding rounds_to chain_to
returns c =
    let a = c.args in
    let z = c.in_ok-check_test.ensures in
    let e = lent_rules a.page.now (test_page _ _ _ z) _ (c.deref.ensures.0 ∙ c.put_rows.ensures) a.flags in
    given _ _ _ z _ (c.count_rounds.ensures ∙ ap (λ (P : List Rule). chain (reduct P a.to)) e)
