-- `split_test` refuses the call, or counts by the words of its page. Assumes nothing.
use mathlib.Core.Path.{ap, ◌∙◌}
use Prim.Native.Nat.{ℕ}
use Rattle.words.proofs.Lent.{test_page, lent_split}
use Rattle.routes.proofs.SplitAccepted.{refused_test, refused_many, counted_splits, many_words}
use Rattle.routes.proofs.split.split_test.Goals as goal

pub returns-in_err-check_test : goal.returns-in_err-check_test
returns-in_err-check_test c =
    let a = c.args in
    refused_test a.page.now a.flags a.set _ _ c.from_residual.ensures.1 c.in_err-check_test.ensures

pub returns-then-too_many : goal.returns-then-too_many
returns-then-too_many c =
    let a = c.args in
    let z = c.in_ok-check_test.ensures in
    let many = many_words a.page.now a.flags a.set z _ (c.deref.ensures.0 ∙ c.put_rows.ensures) _ c.too_many.ensures in
    refused_many a.page.now a.flags a.set z _ many c.if-too_many.true

pub returns : goal.returns
returns c =
    let a = c.args in
    let z = c.in_ok-check_test.ensures in
    let many = many_words a.page.now a.flags a.set z _ (c.deref.ensures.0 ∙ c.put_rows.ensures) _ c.too_many.ensures in
    let e = lent_split a.page.now (test_page _ _ _ z) _ (c.deref-2.ensures.0 ∙ c.put_rows.ensures) _ (c.deref-3.ensures.0 ∙ c.pair_words-pairs.ensures) a.flags in
    counted_splits a.page.now a.flags a.set z _ many c.if-too_many.false _ (c.split_count.ensures ∙ ap (λ (f : ℕ → ℕ). f a.set) e)
