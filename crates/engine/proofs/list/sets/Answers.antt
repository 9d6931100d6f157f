-- `list::sets` refuses by the first refusal; else it says whether there was room for what was found. Assumes nothing.
use mathlib.Core.Path.{◌∙◌}
use native.Mathlib.Omega.{arith}
use Rattle.words.proofs.Lent.{rows_lent, words_most}
use Rattle.engine.proofs.AnswerSets.{sets_found}
use Rattle.engine.proofs.SetsStored.{says_refused, says_short, says_stored}
use Rattle.engine.proofs.list.sets.Goals as goal

pub returns-in_err-check_flags : goal.returns-in_err-check_flags
returns-in_err-check_flags c = says_refused _ _ _ _ _ _ c.from_residual.ensures.1 c.in_err-check_flags.ensures

pub returns-then-out-count : goal.returns-then-out-count
returns-then-out-count c =
    let a = c.args in
    let z = c.in_ok-check_flags.ensures in
    let s = sets_found a.page.now a.flags c.ranges.flags.fits z _ (rows_lent _ _ _ c.row_total.ensures.0 c.fill_rows.ensures.1)
    (words_most _ 32 _ (omega (arith, c.row_total.ensures.1, c.fill_rows.ensures.0)) c.row_total.ensures.1) _ (c.deref.ensures.0 ∙ c.pair_words-pairs.ensures) a.which a.out.now _ _ c.sets-count.ensures in
    says_short _ _ _ _ z _ _ s (omega arith)

pub returns : goal.returns
returns c =
    let a = c.args in
    let z = c.in_ok-check_flags.ensures in
    let s = sets_found a.page.now a.flags c.ranges.flags.fits z _ (rows_lent _ _ _ c.row_total.ensures.0 c.fill_rows.ensures.1)
    (words_most _ 32 _ (omega (arith, c.row_total.ensures.1, c.fill_rows.ensures.0)) c.row_total.ensures.1) _ (c.deref.ensures.0 ∙ c.pair_words-pairs.ensures) a.which a.out.now _ _ c.sets-count.ensures in
    says_stored _ _ _ _ z _ _ s (omega arith)
