-- `pick::pick` refuses by the first refusal; else what is found settles the answer. On an accepted page the words mean its program. Assumes nothing.
use mathlib.Core.Path.{◌∙◌}
use native.Mathlib.Omega.{arith}
use Rattle.words.proofs.Lent.{rows_lent, words_most}
use Rattle.engine.proofs.AnswerSets.{made_pick}
use Rattle.engine.proofs.Picks.{pick_refused, pick_found}
use Rattle.engine.proofs.pick.pick.Goals as goal

pub returns-in_err-check_flags : goal.returns-in_err-check_flags
returns-in_err-check_flags c = pick_refused _ _ _ _ c.from_residual.ensures.1 c.in_err-check_flags.ensures

pub returns : goal.returns
returns c =
    let a = c.args in
    let z = c.in_ok-check_flags.ensures in
    let e = made_pick a.page.now a.flags c.ranges.flags.fits z _ (rows_lent _ _ _ c.row_total.ensures.0 c.fill_rows.ensures.1)
    (words_most _ 32 _ (omega (arith, c.row_total.ensures.1, c.fill_rows.ensures.0)) c.row_total.ensures.1) _ (c.deref.ensures.0 ∙ c.pair_words-pairs.ensures) in
    rw c.ok_or.ensures.value (pick_found a.page.now a.flags z _ (c.pick.ensures ∙ e))
