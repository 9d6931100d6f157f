-- `reduct_test` refuses the call, or answers by the words of its page. Assumes nothing.
use mathlib.Core.Path.{ap, ◌∙◌}
use mathlib.Core.Bool.{Bool}
use Prim.Native.Nat.{ℕ}
use Rattle.page.proofs.Refusing.{refused_before, given}
use Rattle.words.proofs.Lent.{lent_answer, test_page}
use Rattle.routes.specs.Tests.{reduct_test}
use Rattle.routes.proofs.reduct.reduct_test.Goals as goal

pub returns-in_err-check_test : goal.returns-in_err-check_test
unfolding reduct_test
returns-in_err-check_test c = refused_before _ _ _ _ _ c.from_residual.ensures.1 c.in_err-check_test.ensures

pub returns : goal.returns
unfolding reduct_test
returns c =
    let a = c.args in
    let z = c.in_ok-check_test.ensures in
    let e = lent_answer a.page.now (test_page _ _ _ z) _ (c.deref.ensures.0 ∙ c.put_rows.ensures) _ (c.deref-2.ensures.0 ∙ c.pair_words-pairs.ensures) a.flags in
    given _ _ _ z _ (c.is_answer.ensures ∙ ap (λ (f : ℕ → Bool). f a.set) e)
