-- `bits_from` answers whether a bit stands at place a or above: below 16 a shift leaves such bits only, and from 16 on there are none.
-- Assumes nothing.
use native.Mathlib.Omega.{arith}
use Rattle.page.proofs.Words.{bits_shift, bits_none}
use Rattle.page.proofs.accept.bits_from.Goals as goal

pub returns-then-a-lt16 : goal.returns-then-a-lt16
returns-then-a-lt16 c = bits_shift c.args.a c.args.s c.if-a-lt16.true c.ranges.s.fits

pub returns-else-a-lt16 : goal.returns-else-a-lt16
returns-else-a-lt16 c = grind (arith, bits_none c.args.a c.args.s c.if-a-lt16.false)
