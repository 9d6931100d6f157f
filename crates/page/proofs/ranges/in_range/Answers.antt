-- `in_range` asks whether the range has the number. Assumes nothing.
use native.Mathlib.Omega.{arith}
use Rattle.page.specs.Refusals.{in_range}
use Rattle.page.proofs.ranges.in_range.Goals as goal

pub returns : goal.returns
unfolding in_range
returns c = grind (arith, c.contains.ensures.value, c.new.ensures.start, c.new.ensures.end)
