-- `Ranking::climb`. What is kept: c is marked, and no best set has lost its mark. Assumes nothing.
use Prim.Native.Nat.{◌*◌, ◌<◌}
use native.Mathlib.Omega.{arith}
use Rattle.lanes.specs.Left.{beats}
use Rattle.lanes.proofs.Index.{searched_left}
use Rattle.lanes.proofs.Clearing.{clear_left, clear_own, clear_rival, way_shorter}
use Rattle.lanes.proofs.Champion.{by_rows, found, found_marked, found_over, left_start, left_more}
use Rattle.lanes.proofs.ranking.Ranking.climb.Goals as goal

pub loop-k-init : goal.loop-k-init
loop-k-init c = (c.ranges.n.fits, c.requires.4, left_start _ _)

pub rival_from-requires : goal.rival_from-requires
rival_from-requires c =
    let p = c.requires in
    let f = c.loop-k.invariant.2 in
    (searched_left _ _ _ f.same f.less p.0, p.1, p.2, p.3)

pub returns : goal.returns
returns c =
    let h = c.loop-k in
    let i = h.invariant in
    let g = c.in_default.ensures.1 in
    left_more _ (by_rows _) _ _ (left_more _ (by_rows _) _ _ i.2 _ (clear_left _ _ _ _ g i.0 i.1)) _
    (clear_left _ _ _ _ c.clear_worse.ensures i.0 (clear_own _ _ _ _ g (by_rows _) i.1))

pub loop-k-smaller : goal.loop-k-smaller
loop-k-smaller c =
    let h = c.loop-k in
    let r = c.in-Some in
    let a = c.args in
    way_shorter (beats a.self.now) h.c h.marks _ r.ensures.1 (by_rows _) r.k (omega arith) (found (beats a.self.now) h.marks h.c (64 * a.b) r.k r.ensures.0 (omega arith))

pub loop-k-preserved : goal.loop-k-preserved
loop-k-preserved c =
    let h = c.loop-k in
    let i = h.invariant in
    let r = c.in-Some in
    let a = c.args in
    let o = beats a.self.now in
    let e = r.ensures in
    let l : r.k < 65536 = omega arith in (
      l,
      clear_rival o h.c h.marks _ e.1 (by_rows _) r.k (found_marked o h.marks h.c (64 * a.b) r.k e.0 l) (found_over o h.marks h.c (64 * a.b) r.k e.0 l),
      left_more _ (by_rows _) _ _ i.2 _ (clear_left _ _ _ _ e.1 i.0 i.1),
    )
