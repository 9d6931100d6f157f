-- The pairs that are left decide what all of them decide, since those passed are apart.
use Rattle.std.proofs.Common.{◌≡◌, ◌+◌, ◌*◌, ◌-◌}
use Rattle.lpod.specs.Lists.{every}
use Rattle.page.specs.Program.{pairs_from}
use Rattle.page.specs.Refusals.{apart}
use Rattle.page.proofs.accept.content.apart_from.Given as goal

abbrev pub invariant-loop-k : goal.invariant-loop-k
invariant-loop-k l =
    every (apart (record { one = l.one; other = l.other })) (pairs_from l.page l.from l.n)
    ≡ every (apart (record { one = l.one; other = l.other })) (pairs_from l.page (l.from + 2 * l.k) (l.n - l.k))
