-- `atoms::with_atom` puts in atom a where a is below 16, and nothing else. Assumes nothing.
use Rattle.std.proofs.Common.{ℕ, ◌∙◌, sym, ap}
use lib.Bits.{bit_or}
use borrow.Author.Tests.{le-ltb}
use Rattle.atoms.specs.Atoms.{with_atom}
use Rattle.atoms.proofs.Bits.{shl_single, with_insert}
use Rattle.atoms.proofs.with_atom.Goals as goal

pub returns-then-a-lt16 : goal.returns-then-a-lt16
returns-then-a-lt16 c =
    ap (λ (x : ℕ). bit_or c.args.s x) (shl_single c.args.a c.if-a-lt16.true) ∙ sym (with_insert c.args.s c.args.a c.if-a-lt16.true)

pub returns : goal.returns
unfolding with_atom
returns c = rw (le-ltb c.args.a 16 c.if-a-lt16.false)
