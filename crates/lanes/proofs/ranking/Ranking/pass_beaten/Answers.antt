-- `Ranking::pass_beaten`: s is cleared; where something is marked after it, what a champion beats from s's block on is too. Assumes nothing.
use native.Mathlib.Omega.{arith}
use Rattle.lanes.specs.Left.{beats}
use Rattle.lanes.proofs.Index.{stands, searched_left}
use Rattle.lanes.proofs.Champion.{by_rows, left_more, dropped_left, dropped_own, dropped_other}
use Rattle.lanes.proofs.ranking.Ranking.pass_beaten.Goals as goal

pub unmark-requires : goal.unmark-requires
unmark-requires c = (stands _ _ c.requires.0 c.args.s c.requires.1).0

pub next_after-requires : goal.next_after-requires
next_after-requires c =
    let p = stands _ _ c.requires.0 c.args.s c.requires.1 in
    (omega (arith, c.unmark.ensures.0, p.0), p.1, p.2)

pub returns-in_err-next_after : goal.returns-in_err-next_after
returns-in_err-next_after c =
    let a = c.args in
    let u = c.unmark.ensures in (
      rw c.from_residual.ensures c.in_err-next_after.ensures,
      dropped_left a.marks.now _ a.s u.1 (beats a.self.now) a.n c.requires.2 c.requires.3 u.0 c.ranges.n.fits,
      dropped_own a.marks.now _ a.s u.1,
    )

pub climb-requires : goal.climb-requires
climb-requires c =
    let a = c.args in
    let p = stands _ _ c.requires.0 a.s c.requires.1 in
    let u = c.unmark.ensures in
    let o = beats a.self.now in
    let f = dropped_left a.marks.now _ a.s u.1 o a.n c.requires.2 c.requires.3 u.0 c.ranges.n.fits in (
      searched_left _ _ _ f.same f.less c.requires.0,
      p.1,
      p.2,
      omega (arith, c.ranges.s.fits),
      dropped_other a.marks.now _ a.s u.1 o a.n c.requires.2 c.requires.3 (by_rows _),
    )

pub next_after-requires-2 : goal.next_after-requires-2
next_after-requires-2 c =
    let p = stands _ _ c.requires.0 c.args.s c.requires.1 in
    (omega (arith, c.unmark.ensures.0, c.climb.ensures.same, p.0), p.1, p.2)

pub returns : goal.returns
returns c =
    let a = c.args in
    let u = c.unmark.ensures in
    let f = dropped_left a.marks.now _ a.s u.1 (beats a.self.now) a.n c.requires.2 c.requires.3 u.0 c.ranges.n.fits in
    let g = c.climb.ensures in
    (c.next_after-2.ensures, left_more _ (by_rows _) _ _ f _ g, λ t. dropped_own a.marks.now _ a.s u.1 (g.less a.s t))
