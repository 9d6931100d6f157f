-- `rows_seen` answers what `bad_counts` and `unsorted` of the definitions say. What was seen of the rows passed, and the rows that are left,
-- decide together what all rows decide; `place` is where the next row's literals start, so in the end where the last row's literals stop.
-- The measure is how many rows are left. Assumes nothing.
use Prim.Native.Nat.{ℕ, ◌-◌, ◌+◌}
use mathlib.Core.Path.{◌≡◌, refl, sym, ap, ◌∙◌}
use mathlib.Core.Bool.{Bool, ◌&&◌, not}
use mathlib.Core.List.{List}
use native.Mathlib.Nat.{sub-zero}
use native.Mathlib.Omega.{arith}
use lib.Dec.{leb, eqb}
use Rattle.page.specs.Fields.{spare_byte}
use Rattle.page.specs.Program.{rows_of}
use Rattle.page.specs.Refusals.{bad_counts, row_fits, unsorted, bodies_rise}
use Rattle.page.specs.Rows.{row_from}
use Rattle.page.specs.declared.rows.Row.{Row}
use Rattle.page.proofs.RowSteps.{at_first, at_next, rest_step, rest_none}
use Rattle.page.proofs.Scan.{numbers_step, numbers_none, every_both, every_done}
use Rattle.page.proofs.accept.content.rows_seen.Goals as goal

-- the row in hand, with its fourth byte, is tested as the definition tests it
fits-row : (page : List ℕ) (n i s : ℕ) (row : Row) → row ≡ row_from page n i → s ≡ spare_byte page n
    → (b : Bool) → b ≡ (leb row.head 6 && (leb row.pos 8 && (leb row.neg 8 && eqb s 0))) → b ≡ row_fits page n
unfolding row_fits row_from
fits-row page n i s row e es b eb = eb ∙ rw (e, es)

pub loop-r-init : goal.loop-r-init
unfolding rows_of
loop-r-init c = (
  omega arith,
  at_first _ _ c.first_place-place.ensures,
  rw (← c.row_count-total.ensures, sub-zero) refl,
  rw (← c.first_place-place.ensures, ← c.row_count-total.ensures, sub-zero) refl,
)

pub loop-r-preserved : goal.loop-r-preserved
loop-r-preserved c =
    let row = c.row_from-row in
    let h = c.loop-r in
    let total = c.row_count-total.result in
    let page = c.args.page.now in
    let bytes = c.type_inv.page in
    let fits = fits-row page h.r h.place _ _ row.ensures c.spare_byte.ensures _ c.row_fits-fit.ensures in (
      omega arith,
      at_next _ bytes h.r _ row.result (omega arith) h.invariant.1 row.ensures _ c.place_after-place.ensures,
      h.invariant.2 ∙ every_both (row_fits page) _ _ _ (numbers_step h.r (total - h.r) (total - (h.r + 1)) (omega arith)) h.fit _ fits,
      h.invariant.3 ∙ every_both bodies_rise _ _ _ (rest_step _ bytes h.r _ row.result (omega arith) h.invariant.1 row.ensures total _ (omega arith)
          c.place_after-place.ensures) h.rise _ c.bodies_rise-rise.ensures,
    )

pub returns : goal.returns
unfolding bad_counts unsorted
returns c =
    let h = c.loop-r in
    let total = c.row_count-total.result in
    let page = c.args.page.now in
    let fit = h.invariant.2 ∙ every_done (row_fits page) _ (numbers_none h.r _ (omega arith)) h.fit in
    let rise = h.invariant.3 ∙ every_done bodies_rise _ (rest_none page h.r h.place total (omega arith)) h.rise in
    let last : h.r ≡ total = omega arith in
    record {
      misfit_value = rw (fit, ← c.pairs_at.ensures, ← c.row_count-total.ensures, ← last, ← h.invariant.1);
      unsorted_value = sym (ap not rise);
    }
