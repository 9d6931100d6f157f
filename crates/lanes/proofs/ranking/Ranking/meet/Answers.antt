-- `Ranking::meet` looks at the lanes of a block but m's own. Assumes nothing.
use mathlib.Core.Path.{refl}
use native.Mathlib.Omega.{arith}
use Rattle.lanes.proofs.Index.{none_others, some_others}
use Rattle.lanes.proofs.Clearing.{clear_none, clear_block}
use Rattle.lanes.proofs.ranking.Ranking.meet.Goals as goal

pub returns-then-rest-eq0 : goal.returns-then-rest-eq0
returns-then-rest-eq0 c =
    let a = c.args in
    let o = c.others-rest in
    (none_others a.self.now.rules.rows.now a.marks.now a.b a.m o.result o.ensures c.if-rest-eq0.true, clear_none _ _ _)

pub returns : goal.returns
returns c =
    let a = c.args in
    let o = c.others-rest in
    let r = c.compare-r in
    let e = r.ensures a.m c.requires.1 in (
      some_others _ a.marks.now a.b a.m o.result o.ensures r.result.won (λ j l. (e j l).0),
      clear_block _ a.m a.marks.now a.b _ r.result.lost o.result c.requires.3 refl (omega (arith, r.type_inv)) (λ j l. (e j l).1),
    )
