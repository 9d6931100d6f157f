-- `reader::has_row` makes the two tests of the definition: a page is accepted exactly where its number is 0. Assumes nothing.
use mathlib.Core.Path.{◌∙◌, sym}
use Rattle.page.specs.Reader.{has_row}
use Rattle.page.proofs.Refusing.{ok_number, err_number}
use Rattle.page.proofs.reader.has_row.Goals as goal

pub returns-then-is_ok : goal.returns-then-is_ok
unfolding has_row
returns-then-is_ok c =
    rw (← c.check_page.ensures, ok_number c.check_page.result (sym c.is_ok.ensures.value ∙ c.if-is_ok.true), ← c.row_count.ensures)

pub returns-else-is_ok : goal.returns-else-is_ok
unfolding has_row
returns-else-is_ok c =
    let e = sym c.is_ok.ensures.value ∙ c.if-is_ok.false in
    rw (← c.check_page.ensures, err_number c.check_page.result e) c.if-is_ok.false
