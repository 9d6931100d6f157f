-- The bytes that are left decide what all of them decide, since each one passed lies below its neighbour.
use Rattle.std.proofs.Common.{◌≡◌, ◌+◌, ◌*◌, ◌-◌, ◌≤◌}
use Rattle.page.specs.Refusals.{rises}
use Rattle.page.specs.Scan.{spaced}
use Rattle.page.proofs.accept.content.rises_by.Given as goal

abbrev pub invariant-loop-k : goal.invariant-loop-k
invariant-loop-k l = record {
  near : l.at + 255 ≤ l.from + 255 * l.k;
  rest : rises (spaced l.page l.step l.from l.n) ≡ rises (spaced l.page l.step l.at (l.n + 1 - l.k));
}
