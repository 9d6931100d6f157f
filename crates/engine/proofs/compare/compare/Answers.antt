-- `compare::compare` gives the first refusal, or the comparison. On an accepted page the words mean its program. Assumes nothing.
use mathlib.Core.Path.{◌∙◌}
use Rattle.page.proofs.Refusing.{passed_up}
use Rattle.engine.proofs.Comparing.{compare_tested, compare_second_tested, compare_no_answer, compare_given}
use Rattle.engine.proofs.compare.compare.Goals as goal

pub returns-in_err-check_test : goal.returns-in_err-check_test
returns-in_err-check_test c = rw (passed_up _ _ c.from_residual.ensures.1) (compare_tested _ _ _ _ _ c.in_err-check_test.ensures)

pub returns-in_err-check_set : goal.returns-in_err-check_set
returns-in_err-check_set c =
    rw (passed_up _ _ c.from_residual-in_err-check_set.ensures.1) (compare_second_tested _ _ _ _ c.in_ok-check_test.ensures _ c.in_err-check_set.ensures)

pub returns-then-not-both_answer : goal.returns-then-not-both_answer
returns-then-not-both_answer c =
    compare_no_answer _ _ _ _ c.in_ok-check_test.ensures c.in_ok-check_set.ensures _ (c.deref.ensures.0 ∙ c.put_rows.ensures)
    _ (c.deref-2.ensures.0 ∙ c.pair_words-pairs.ensures) _ c.both_answer.ensures c.if-not-both_answer.true

pub returns : goal.returns
returns c =
    compare_given _ _ _ _ c.in_ok-check_test.ensures c.in_ok-check_set.ensures _ c.put_rows.ensures _ c.pair_words-pairs.ensures
    _ (rw (c.deref.ensures.0, c.deref-2.ensures.0) at c.both_answer.ensures) c.if-not-both_answer.false _ (rw c.deref-3.ensures.0 at c.side_of.ensures)
