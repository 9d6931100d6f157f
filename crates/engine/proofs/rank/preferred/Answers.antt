-- `rank::preferred` takes the rows of the raised atoms first and then those of the words; what is found at the end decides. Assumes nothing.
use Rattle.std.proofs.Common.{rules}
use Rattle.std.specs.Prelude.{Option}
use Rattle.std.specs.Option.{MatchOption}
use mathlib.Core.Path.{◌≡◌, sym, ap, ◌∙◌}
use mathlib.Core.Bool.{◌&&◌, not, false}
use mathlib.Core.List.{[]}
use native.Mathlib.Omega.{arith}
use Rattle.words.specs.Coded.{rules_in, program_in}
use Rattle.engine.specs.Rank.{rows_seen}
use Rattle.engine.specs.declared.rank.Difference.{Difference}
use Rattle.engine.proofs.LeastKept.{some_and, rows_past}
use Rattle.engine.proofs.FirstDifference.{pass_decides}
use Rattle.engine.proofs.rank.preferred.Goals as goal

pub returns : goal.returns
unfolding program_in
returns c =
    let h = c.loop-row in
    let a = c.args in
    let s : MatchOption h.found (c.is_some_and.result ≡ false) (λ x. c.is_some_and.result ≡ (x.first && not x.second)) = search rules in
    let e = sym (rows_past a.rows.now h.row-index a.m a.n h.found (omega arith)) ∙ sym h.invariant in
    some_and h.found _ s
    ∙ pass_decides (program_in a.rows.now [] a.flags) a.m a.n c.ranges.flags.fits h.found
    (e ∙ ap (λ (f : Option Difference). rows_seen f (rules_in a.rows.now) a.m a.n) c.raised-found.ensures)
