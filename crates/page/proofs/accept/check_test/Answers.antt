-- `check_test` refuses for the page and the flag word first, and then for the set. Assumes nothing.
use Rattle.page.specs.Refusals.{test_no, test_refusals, set_no, set_refusals, flag_no, flag_refusals}
use Rattle.page.proofs.Refusals.{flag_numbered}
use Rattle.page.proofs.Refusing.{error_stands, then_rest}
use Rattle.page.proofs.accept.check_test.Goals as goal

pub returns-in_err-check_flags : goal.returns-in_err-check_flags
unfolding test_no test_refusals flag_no
returns-in_err-check_flags c =
    let page = c.args.page.now in
    let flags = c.args.flags in
    error_stands (flag_refusals page flags) (set_refusals page c.args.set) (flag_numbered page flags) _ _ c.from_residual.ensures.1 c.in_err-check_flags.ensures

pub returns : goal.returns
unfolding test_no test_refusals set_no flag_no
returns c =
    let page = c.args.page.now in
    let flags = c.args.flags in
    then_rest (flag_refusals page flags) (set_refusals page c.args.set) (flag_numbered page flags) _ c.in_ok-check_flags.ensures c.check_set.ensures
