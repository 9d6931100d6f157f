-- The pairs that are left decide what all of them decide, since those passed are in order and apart from all later ones.
use Rattle.std.proofs.Common.{◌≡◌, ◌+◌, ◌*◌, ◌-◌}
use Rattle.page.specs.Program.{pairs_from}
use Rattle.page.specs.Scan.{pairs_hold}
use Rattle.page.proofs.accept.content.pairs_hold.Given as goal

abbrev pub invariant-loop-k : goal.invariant-loop-k
invariant-loop-k l = pairs_hold (pairs_from l.page l.from l.n) ≡ pairs_hold (pairs_from l.page (l.from + 2 * l.k) (l.n - l.k))
