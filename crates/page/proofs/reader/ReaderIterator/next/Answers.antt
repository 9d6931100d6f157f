-- A step reads the row where the reader is. Where there is one its number is below R, so the next number fits, and fewer rows are left.
-- Assumes nothing.
use mathlib.Core.Path.{◌≡◌, refl}
use Rattle.std.specs.Prelude.{None}
use native.Mathlib.Omega.{arith}
use Rattle.page.proofs.ReaderSteps.{read_row, read_past, row_before, step_on, step_stays}
use Rattle.page.proofs.reader.ReaderIterator.next.Goals as goal

pub returns-in_err-row-clause-steps : goal.returns-in_err-row-clause-steps
returns-in_err-row-clause-steps c =
    let r = c.args.self.now in
    let gone : c.from_residual.result ≡ None = grind arith in
    (rw gone c.in_err-row.ensures.row, refl, step_stays r.src.now r.at (read_past r.src.now r.at c.in_err-row.ensures.row))

pub overflow_add-self : goal.overflow_add-self
overflow_add-self c = omega (arith, c.in_ok-row.ensures.next_fits)

pub returns-clause-steps : goal.returns-clause-steps
returns-clause-steps c =
    let r = c.args.self.now in
    (c.in_ok-row.ensures.row, refl, step_on r.src.now r.at (read_row r.src.now r.at c.in_ok-row.row c.in_ok-row.ensures.row).0)

pub returns-clause-goes : goal.returns-clause-goes
returns-clause-goes c =
    let r = c.args.self.now in
    let less = row_before r.src.now r.at (read_row r.src.now r.at c.in_ok-row.row c.in_ok-row.ensures.row).0 in
    grind arith
