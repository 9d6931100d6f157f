-- `sets::pick_with`: the least best set of the marks is the first of the best sets. Assumes nothing.
use mathlib.Core.Path.{refl, ap, ◌∙◌}
use native.Mathlib.Omega.{arith}
use Rattle.std.proofs.Common.{rules}
use Rattle.lpod.specs.Best.{first_of, pick}
use Rattle.lanes.proofs.Listed.{first_found, may_search}
use Rattle.lanes.proofs.sets.pick_with.Goals as goal

pub first_best-requires : goal.first_best-requires
first_best-requires c =
    let m = c.mark.ensures.0 in
    let l = may_search m _ refl m.between in
    let k = m.long in
    let s = c.span.ensures in
    rw (s.0, s.1) (c.args.p.few, l.0, omega (arith, k, c.requires.0, c.requires.1.0), l.1, l.2)

pub returns : goal.returns
unfolding pick
returns c =
    let f = c.first_best in
    first_found _ f.result (search rules) f.ensures ∙ ap first_of c.mark.ensures.0.best
