-- `read::fill_rows` stores one row after the other. What is kept: the row in hand stands at `place`, and the words stored, with those of the rows
-- to come, are all of them; the words after these are as they were. That the array has 32 words is known where it is lent as a slice. Assumes nothing.
use Rattle.std.proofs.Common.{rules}
use mathlib.Core.Path.{◌≡◌, refl, ap, ◌∙◌}
use mathlib.Core.List.{List, ◌∷◌, map}
use Prim.Native.Nat.{ℕ, ◌<◌}
use native.Mathlib.Nat.{sub-zero}
use native.Mathlib.Omega.{arith}
use lib.ListN.{length-set}
use Rattle.lpod.specs.Rule.{Rule}
use Rattle.page.proofs.RowSteps.{at_first, at_next, rest_step, rest_none}
use Rattle.words.specs.Coded.{row_word, row_total, row_words}
use Rattle.words.proofs.Filled.{filled_more, filled_all, kept_more, kept_rest}
use Rattle.words.proofs.read.fill_rows.Goals as goal

-- the rows to come: the one in hand, by its word, and the rest
to-come : (P rest : List Rule) (r : Rule) (w : ℕ) → P ≡ r ∷ rest → w ≡ row_word r → map row_word P ≡ w ∷ map row_word rest
to-come P rest r w e ew = ap (map row_word) e ∙ rw (← ew)

pub loop-r-init : goal.loop-r-init
unfolding row_words
loop-r-init c =
    let first = c.first_place-place.ensures in
    (at_first _ _ first, (search rules), rw (sub-zero, first, c.row_total-total.ensures.0), refl)

pub loop-r-preserved : goal.loop-r-preserved
loop-r-preserved c =
    let w = c.row_word in
    let row = c.row_from-row in
    let h = c.loop-r in
    let total = c.row_total-total.result in
    let small : h.r < 65536 = omega (arith, c.row_total-total.ensures.1) in (
      at_next _ c.type_inv.page h.r _ row.result small h.invariant.0 row.ensures _ c.place_after-place.ensures,
      length-set h.out h.r w.result ∙ h.invariant.1,
      filled_more h.out _ _ _ h.r w.result (omega (arith, h.invariant.1, c.row_total-total.ensures.1)) h.invariant.2
          (to-come _ _ _ w.result (rest_step _ c.type_inv.page h.r _ row.result small h.invariant.0 row.ensures total _ (omega arith)
          c.place_after-place.ensures) w.ensures),
      kept_more h.out _ h.r w.result h.invariant.3,
    )

pub returns : goal.returns
returns c =
    let h = c.loop-r in
    let total = c.row_total-total in
    let page = c.args.page.now in
    let e : row_total page ≡ h.r = omega (arith, total.ensures.0) in (
      h.invariant.1,
      filled_all h.out _ _ h.r _ h.invariant.2 (ap (map row_word) (rest_none page h.r h.place total.result (omega arith))) e,
      kept_rest h.out _ h.r _ h.invariant.3 e,
    )
