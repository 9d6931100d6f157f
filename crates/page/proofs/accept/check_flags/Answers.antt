-- `check_flags` refuses for the page first, and then for the word. Assumes nothing.
use mathlib.Core.List.{[], ◌∷◌}
use Rattle.page.specs.Refusals.{flag_no, flag_refusals, set_no, set_refusals, page_no, page_refusals, flags_out, set_out, refuse}
use Rattle.page.proofs.Refusals.{page_numbered}
use Rattle.page.proofs.Refusing.{error_stands, then_rest}
use Rattle.page.proofs.accept.check_flags.Goals as goal

pub returns-in_err-check_page : goal.returns-in_err-check_page
unfolding flag_no flag_refusals page_no
returns-in_err-check_page c =
    let page = c.args.page.now in
    error_stands (page_refusals page) (refuse 9 (flags_out page c.args.flags) ∷ []) (page_numbered page) _ _ c.from_residual.ensures.1 c.in_err-check_page.ensures

pub returns : goal.returns
unfolding flag_no flag_refusals set_no set_refusals page_no flags_out set_out
returns c =
    let page = c.args.page.now in
    then_rest (page_refusals page) (set_refusals page c.args.flags) (page_numbered page) _ c.in_ok-check_page.ensures c.check_set.ensures
