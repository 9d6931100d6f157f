-- `reader::row_at` reads row n at its place where there is one, and else says that there is none. Assumes nothing.
use mathlib.Core.Path.{sym, ◌∙◌}
use native.Mathlib.Omega.{arith}
use Rattle.page.specs.Rows.{row_from}
use Rattle.page.specs.Reader.{said, row_there, row_said}
use Rattle.page.proofs.ReaderSteps.{row_below}
use Rattle.page.proofs.reader.row_at.Goals as goal

pub returns-then-has_row-clause-row : goal.returns-then-has_row-clause-row
unfolding row_said row_there said row_from
returns-then-has_row-clause-row c = rw (← c.has_row.ensures, c.if-has_row.true, c.row_from.ensures, c.place_of.ensures)

pub returns-then-has_row-clause-next_fits : goal.returns-then-has_row-clause-next_fits
returns-then-has_row-clause-next_fits c = omega (arith, row_below _ c.type_inv.page _ (sym c.has_row.ensures ∙ c.if-has_row.true))

pub returns-clause-row : goal.returns-clause-row
unfolding row_said said
returns-clause-row c = rw (← c.has_row.ensures, c.if-has_row.false)
