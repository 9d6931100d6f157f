-- `head_count` reads the first byte of row r. Assumes nothing.
use native.Mathlib.Nat.{add-zero}
use Rattle.page.specs.Fields.{head_count}
use Rattle.page.proofs.fields.head_count.Goals as goal

pub returns : goal.returns
unfolding head_count
returns c = simp add-zero at c.row_byte.ensures
