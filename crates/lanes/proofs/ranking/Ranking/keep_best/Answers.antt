-- `Ranking::keep_best` goes from one best set to the next. What is kept: no best set has lost its mark, the next set is marked where there is one, and
-- below it only best sets are marked. Assumes nothing.
use mathlib.Core.Path.{◌≡◌, ap}
use Prim.Native.Nat.{◌+◌, ◌<◌}
use native.Mathlib.Nat.{le_refl}
use native.Mathlib.Omega.{arith}
use Rattle.lanes.specs.Seek.{number_of}
use Rattle.lanes.proofs.Seek.{next_passes}
use Rattle.lanes.proofs.Index.{searched_left, stands}
use Rattle.lanes.proofs.Champion.{by_rows, reaches, stays, none_to_first, left_start, left_more, kept_to, kept_on, kept_all}
use Rattle.lanes.proofs.ranking.Ranking.keep_best.Goals as goal

pub loop-next-init : goal.loop-next-init
loop-next-init c =
    let m = c.first-next in (
      stays _ 0 _ m.ensures (omega arith),
      next_passes _ 0 _ m.ensures,
      left_start _ _,
      λ x l t. absurd (none_to_first _ 0 _ m.ensures x (omega arith) l t),
    )

pub settle-requires : goal.settle-requires
settle-requires c =
    let i = c.loop-next.invariant in
    let t = rw c.in-Some.is at i.1 in
    (searched_left _ _ _ i.2.same i.2.less c.requires, t (omega arith))

pub returns-in_default-settle : goal.returns-in_default-settle
returns-in_default-settle c =
    let m = c.in-Some.m in
    let e = c.in_default-settle.ensures in
    let h = c.loop-next in
    let i = h.invariant in
    let k = rw c.in-Some.is at i.3 in
    let f = left_more _ (by_rows _) _ h.marks i.2 _ e.1 in (
      f.same,
      λ s t. c.requires.between s (f.less s t),
      kept_all _ _ _ f 65536 (le_refl 65536) (kept_to _ (by_rows _) _ h.marks _ i.2 e.1 m 65536 e.0 e.2 k),
    )

pub next_after-next-requires : goal.next_after-next-requires
next_after-next-requires c =
    let s = c.in-Some-settle.s in
    let e = c.in-Some-settle.ensures in
    let h = c.loop-next in
    let f = left_more _ (by_rows _) _ h.marks h.invariant.2 _ e.1 in
    stands _ _ (searched_left _ _ _ f.same f.less c.requires) s (e.1.best s (next_passes _ c.in-Some.m s e.0 (omega arith)))

pub loop-next-smaller : goal.loop-next-smaller
loop-next-smaller c =
    let m = c.in-Some.m in
    let s = c.in-Some-settle.s in
    let n = c.next_after-next in
    let q : number_of c.loop-next.next ≡ m = ap number_of c.in-Some.is in
    omega (arith, q, reaches _ m s c.in-Some-settle.ensures.0, reaches _ (s + 1) (number_of n.result) n.ensures)

pub loop-next-preserved : goal.loop-next-preserved
loop-next-preserved c =
    let m = c.in-Some.m in
    let s = c.in-Some-settle.s in
    let e = c.in-Some-settle.ensures in
    let h = c.loop-next in
    let i = h.invariant in
    let k = rw c.in-Some.is at i.3 in
    let n = c.next_after-next in
    let l : s < 65536 = omega arith in (
      stays _ (s + 1) (number_of n.result) n.ensures (omega arith),
      next_passes _ (s + 1) (number_of n.result) n.ensures,
      left_more _ (by_rows _) _ h.marks i.2 _ e.1,
      kept_on _ (by_rows _) _ h.marks _ i.2 e.1 m s e.0 e.2 k l (number_of n.result) n.ensures,
    )

pub returns : goal.returns
returns c =
    let h = c.loop-next in
    let i = h.invariant in
    let k = rw c.in_default.is at i.3 in
    (i.2.same, λ s t. c.requires.between s (i.2.less s t), kept_all _ _ h.marks i.2 65536 (le_refl 65536) k)
