-- `atoms::holds` says whether atom a is in s: below 16 the bit itself, from 16 on a set of 16 bits has none. Assumes nothing.
use Rattle.std.proofs.Common.{sym, rules}
use Rattle.atoms.specs.Atoms.{has}
use Rattle.atoms.proofs.Bits.{has_high}
use Rattle.atoms.proofs.holds.Goals as goal

pub returns-then-a-lt16 : goal.returns-then-a-lt16
unfolding has
returns-then-a-lt16 c = search rules

pub returns : goal.returns
returns c = sym (has_high 16 c.args.s c.args.a c.ranges.s.fits c.if-a-lt16.false)
