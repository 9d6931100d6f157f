-- `rows::place_after` goes round at 32 bits. Assumes nothing.
use native.Mathlib.Omega.{arith}
use Rattle.page.specs.Rows.{place_after}
use Rattle.page.proofs.rows.place_after.Goals as goal

pub returns : goal.returns
unfolding place_after
returns c = omega (arith, c.from.ensures, c.from-2.ensures, c.from-3.ensures)
