-- The bytes that are left to test decide what the whole run decides, since those passed are below.
use Rattle.std.proofs.Common.{◌≡◌, ◌+◌, ◌-◌}
use Rattle.lpod.specs.Lists.{every}
use Rattle.page.specs.Program.{literals}
use Rattle.page.specs.Refusals.{is_below}
use Rattle.page.proofs.accept.content.all_below.Given as goal

abbrev pub invariant-loop-k : goal.invariant-loop-k
invariant-loop-k l = every (is_below l.atoms) (literals l.page l.from l.fn.n) ≡ every (is_below l.atoms) (literals l.page (l.from + l.k) (l.fn.n - l.k))
