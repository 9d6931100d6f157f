-- `rows::place_of` goes from row to row, and keeps the place of the one in hand. Assumes nothing.
use mathlib.Core.Path.{ap, ◌∙◌}
use native.Mathlib.Omega.{arith}
use Rattle.page.specs.Program.{literal_place}
use Rattle.page.proofs.RowSteps.{at_first, at_next}
use Rattle.page.proofs.rows.place_of.Goals as goal

pub loop-r-init : goal.loop-r-init
loop-r-init c = (omega arith, at_first _ _ c.first_place-place.ensures)

pub loop-r-preserved : goal.loop-r-preserved
loop-r-preserved c =
    let h = c.loop-r in
    let row = c.row_from in
    (omega arith, at_next _ c.type_inv.page h.r _ row.result (omega arith) h.invariant.1 row.ensures _ c.place_after-place.ensures)

pub returns : goal.returns
returns c =
    let h = c.loop-r in
    h.invariant.1 ∙ ap (literal_place _) (omega arith)
