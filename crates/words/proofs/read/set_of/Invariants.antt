-- What is kept: the set so far, with the literals to come, is the set of all of them.
use Rattle.std.proofs.Common.{◌≡◌, ◌+◌, ◌-◌}
use Rattle.atoms.specs.Atoms.{union}
use Rattle.page.specs.Program.{literals}
use Rattle.words.specs.Coded.{atoms_of}
use Rattle.words.proofs.read.set_of.Given as goal

abbrev pub invariant-loop-k : goal.invariant-loop-k
invariant-loop-k l = atoms_of (literals l.page l.from l.n) ≡ union l.s (atoms_of (literals l.page (l.from + l.k) (l.n - l.k)))
