-- `marks::Marks::first` begins at block low: no set before it is marked. Assumes nothing.
use mathlib.Core.Path.{sym, ◌∙◌}
use native.Mathlib.Omega.{arith}
use Rattle.atoms.proofs.Bits.{inside_test}
use Rattle.lanes.proofs.Marked.{next_low}
use Rattle.lanes.proofs.marks.Marks.first.Goals as goal

pub from_block-requires : goal.from_block-requires
from_block-requires c =
    (omega arith, λ l. (inside_test c.args.self.span.low c.args.self.span.low (λ i t. t), c.args.self.span.order))

pub returns : goal.returns
returns c =
    c.from_block.ensures ∙ sym (next_low c.args.self.words.now c.args.self.span.low c.args.self.span.high c.args.self.between (omega arith))
