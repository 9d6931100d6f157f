-- `degrees::degrees` gives the first refusal and stores nothing, or stores the degrees. On an accepted page the words mean its program. Assumes nothing.
use native.Mathlib.Omega.{arith}
use Rattle.page.proofs.Refusing.{passed_up}
use Rattle.engine.proofs.Grading.{grading_tested, grading_short, grading_no_answer, grading_given}
use Rattle.engine.proofs.degrees.degrees.Goals as goal

pub returns-in_err-check_test : goal.returns-in_err-check_test
returns-in_err-check_test c =
    let a = c.args in
    rw (passed_up _ _ c.from_residual.ensures.1) (grading_tested a.page.now a.flags a.set a.out.now _ c.in_err-check_test.ensures)

pub returns-then-out-count : goal.returns-then-out-count
returns-then-out-count c = grading_short _ _ _ _ c.in_ok-check_test.ensures _ c.put_rows.ensures (omega arith)

pub returns-then-not-is_answer : goal.returns-then-not-is_answer
returns-then-not-is_answer c =
    grading_no_answer _ _ _ _ c.in_ok-check_test.ensures _ c.put_rows.ensures (omega arith) _ c.pair_words-pairs.ensures
    _ (rw (c.deref.ensures.0, c.deref-2.ensures.0) at c.is_answer.ensures) c.if-not-is_answer.true

pub returns : goal.returns
returns c =
    grading_given _ _ _ _ c.in_ok-check_test.ensures _ c.put_rows.ensures (omega arith) _ c.pair_words-pairs.ensures
    _ (rw (c.deref.ensures.0, c.deref-2.ensures.0) at c.is_answer.ensures) c.if-not-is_answer.false _ c.len-count.ensures.value
    _ (rw c.deref-3.ensures.0 at c.store.ensures)
