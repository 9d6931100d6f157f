-- What is kept: the number so far is that of the literals passed.
use Rattle.std.proofs.Common.{◌≡◌, ◌+◌, ◌-◌, ◌%◌}
use Rattle.page.specs.Program.{literals}
use Rattle.words.specs.Coded as means
use Rattle.words.proofs.read.packed.Given as goal

abbrev pub invariant-loop-k : goal.invariant-loop-k
invariant-loop-k l = l.h ≡ means.packed (literals l.page (l.from + l.k) (l.n - l.k)) % 16777216
