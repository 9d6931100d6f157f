-- `sets::sets_with`: what is marked is what is listed; where only the best are wanted they alone keep their marks. Assumes nothing.
use mathlib.Core.Path.{refl, ◌∙◌}
use native.Mathlib.Omega.{arith}
use Rattle.lanes.proofs.Listed.{found_same, wanted_kept, may_search}
use Rattle.lanes.proofs.sets.sets_with.Goals as goal

pub keep_wanted-requires : goal.keep_wanted-requires
keep_wanted-requires c =
    let m = c.mark.ensures.0 in
    let l = may_search m _ refl m.between in
    let k = m.long in
    let s = c.span-span.ensures in
    rw (s.0, s.1) (c.args.p.few, l.0, omega (arith, k, c.requires.0, c.requires.1.0), l.1, l.2)

pub invariant_of-left : goal.invariant_of-left
invariant_of-left c =
    let k = c.keep_wanted.ensures in
    let s = c.span-span.ensures in
    let l = may_search c.mark.ensures.0 _ k.0 (rw (s.0, s.1) at k.1) in
    rw (s.0, s.1) (record { few = l.0; start = l.1; between = l.2 })

pub returns : goal.returns
returns c =
    found_same c.args.out.now (c.keep_wanted.ensures.2 ∙ wanted_kept c.args.which c.mark.ensures.0) c.listed.ensures
