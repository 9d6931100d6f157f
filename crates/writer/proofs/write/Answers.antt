-- `write` goes one of four ways: 3 for the sizes, the number of the page that it makes, 11, or the page. Assumes nothing.
use Rattle.std.specs.Prelude.{Err}
use Rattle.page.specs.declared.refusal.Refusal.TheVariants.{CountsOut}
use Rattle.std.proofs.Common.{◌≡◌, refl, sym, ap, ◌∙◌, ◌≤◌, length, take, replicate, ℕ, List, arith}
use lib.Seq.{sets, length-take-le}
use Rattle.std.proofs.lemmas.List.{length-replicate}
use Rattle.page.proofs.Refusals.{first_here}
use Rattle.lanes.proofs.Stored.{over_sets}
use Rattle.writer.specs.Content.{encode}
use Rattle.writer.specs.Given.{given}
use Rattle.writer.specs.Writes.{content_refusals, content_no}
use Rattle.writer.proofs.Encoding.{sizes_in, whole}
use Rattle.writer.proofs.Ways.{write_refused, write_short, write_made, made_room, made_lent, made_number}
use Rattle.writer.proofs.write.Goals as goal

-- the part of the made page that is lent to the call has the page's length
lent : (end : ℕ) → end ≤ 866 → let zeros : List ℕ = replicate 866 0 in end ≡ length (take end zeros)
lent end h =
    let zeros : List ℕ = replicate 866 0 in
    sym (length-take-le end zeros (omega (arith, length-replicate {A = ℕ} 866 0)))

pub returns-then-sizes_out : goal.returns-then-sizes_out
unfolding content_no content_refusals
returns-then-sizes_out c = write_refused _ _ (Err CountsOut) CountsOut refl (sym (first_here 3 _ _ _ c.sizes_out.ensures c.if-sizes_out.true))

-- its sizes are in range
pub invariant_of-fit : goal.invariant_of-fit
invariant_of-fit c =
    let s = given c.args.content.now in
    let fine = sym c.sizes_out.ensures ∙ c.if-sizes_out.false in
    let i = sizes_in s fine in
    let w = whole s fine in
    record {
      atoms_most = i.atoms_most;
      rows_most = omega (arith, w.0, i.rows_most);
      literals_most = i.literals_most;
      pairs_most = omega (arith, w.1, i.pairs_most);
    }

pub fill-requires : goal.fill-requires
fill-requires c =
    let end = c.length-end in
    omega (arith, end.ensures.0, lent end.result end.ensures.1)

pub slice_bounds-page-end-2 : goal.slice_bounds-page-end-2
slice_bounds-page-end-2 c = let end = c.length-end in made_room _ _ _ _ _ c.fill.ensures end.ensures.0 (lent end.result end.ensures.1)

pub returns-in_err-check_page : goal.returns-in_err-check_page
returns-in_err-check_page c =
    let end = c.length-end in
    let number = made_number _ _ _ _ _ _ (sym c.sizes_out.ensures ∙ c.if-sizes_out.false) c.fill.ensures end.ensures.0 (lent end.result end.ensures.1)
    c.in_err-check_page.ensures in
    write_refused _ _ _ _ c.from_residual.ensures.1 number

pub returns-then-buffer-end : goal.returns-then-buffer-end
returns-then-buffer-end c =
    let end = c.length-end in
    let number = made_number _ _ _ _ _ _ (sym c.sizes_out.ensures ∙ c.if-sizes_out.false) c.fill.ensures end.ensures.0 (lent end.result end.ensures.1)
    c.in_ok-check_page.ensures in
    write_short _ _ number (omega (arith, end.ensures.0))

pub returns : goal.returns
returns c =
    let end = c.length-end in
    let number = made_number _ _ _ _ _ _ (sym c.sizes_out.ensures ∙ c.if-sizes_out.false) c.fill.ensures end.ensures.0 (lent end.result end.ensures.1)
    c.in_ok-check_page.ensures in
    let a = c.args in
    let s = given a.content.now in
    let room : length (encode s) ≤ length a.buffer.now = omega (arith, end.ensures.0) in
    let made = made_lent _ _ _ _ _ c.fill.ensures end.ensures.0 (lent end.result end.ensures.1) in
    write_made s _ number room _ _ end.ensures.0
    (c.put.ensures ∙ ap (sets a.buffer.now 0) made ∙ over_sets (encode s) a.buffer.now room)
