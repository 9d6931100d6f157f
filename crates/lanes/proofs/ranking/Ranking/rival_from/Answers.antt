-- `Ranking::rival_from` grades m. Where every row has degree 1 nothing is preferred to it; else it goes from block to block. What is kept: the least
-- rival from block b on is the least from block c on, only sets to which m is preferred have lost their marks, and block c lies between low and high
-- where it is one. Assumes nothing.
use mathlib.Core.Path.{refl, sym, ◌∙◌, subst}
use Prim.Native.Nat.{◌+◌, ◌*◌, ◌<◌}
use native.Mathlib.Omega.{arith}
use lib.Dec.{T}
use lib.ListN.{length}
use Rattle.atoms.proofs.Truth.{true_yes}
use Rattle.lanes.specs.Left.{rival, Cleared, beats}
use Rattle.lanes.proofs.Seek.{NoneBetween, next_none}
use Rattle.lanes.proofs.Scan.{word_none, word_first, scan_on, scan_end}
use Rattle.lanes.proofs.Index.{none_first, no_rival}
use Rattle.lanes.proofs.Clearing.{clear_none, clear_more, rivals_before}
use Rattle.lanes.proofs.Champion.{by_rows}
use Rattle.lanes.proofs.ranking.Ranking.rival_from.Goals as goal
use Rattle.lanes.proofs.ranking.Ranking.rival_from.Goals.{then-first-index+else-x-ne0, else-first-index}

pub returns-then-all_first : goal.returns-then-all_first
returns-then-all_first c =
    let a = c.args in
    let f = c.first_rows-first in (
      sym (next_none (rival (beats a.self.now) a.marks.now a.m) (64 * a.b) (omega (arith, c.requires.3))
          (λ x i l. no_rival _ _ _ a.m f.result c.grade.ensures.0 f.ensures (subst T c.all_first.ensures (true_yes c.if-all_first.true)) x)),
      clear_none _ _ _,
    )

pub returns-then-x-ne0 : goal.returns-then-x-ne0
returns-then-x-ne0 c =
    let x = c.meet-x in
    let h = c.loop-c in
    let f = h.invariant.3 in
    let q = rival (beats c.args.self.now) c.args.marks.now c.args.m in (
      sym (h.invariant.2 ∙ word_first q h.c x.result (rivals_before _ _ _ _ f (by_rows _) h.c x.result x.ensures.0) (omega (arith, x.type_inv)) c.if-x-ne0.true
          (omega (arith, c.loop-c-test.true, c.requires.0.few, f.same))),
      clear_more _ _ _ _ _ f x.ensures.1,
    )

pub loop-c-preserved : goal.loop-c-preserved
loop-c-preserved c =
    let came = c.if-first-index.branch in
    let h = c.loop-c in
    let a = c.args in
    let z = c.requires.0 in
    let f = h.invariant.3 in
    let o = beats a.self.now in
    let q = rival o a.marks.now a.m in
    let n = c.next-c in
    let l : h.c < length a.marks.now = omega (arith, c.loop-c-test.true, f.same) in
    let none : NoneBetween q (64 * h.c) (64 * (h.c + 1)) =
    elim came [
      | then-first-index+else-x-ne0 v ↦ word_none q h.c v.meet-x.result (rivals_before _ _ _ _ f (by_rows _) h.c v.meet-x.result v.meet-x.ensures.0) v.if-x-ne0.false
      | else-first-index v ↦
          word_none q h.c 0 (none_first _ a.marks.now h.c a.m _ a.self.now.index.now c.first_rows-first.result c.grade.ensures.0 c.first_rows-first.ensures z.firsts l v.if-first-index.false) refl
    ] in (
      n.ensures.1,
      n.ensures.3,
      h.invariant.2 ∙ scan_on o _ a.m _ _ z.between h.c n.result none n.ensures.0 n.ensures.1 n.ensures.2,
      elim came [
        | then-first-index+else-x-ne0 v ↦ subst (Cleared o a.m a.marks.now) (sym v.marks-is) (clear_more _ _ _ _ _ f v.meet-x.ensures.1)
        | else-first-index v ↦ subst (Cleared o a.m a.marks.now) (sym v.marks-is) f
      ],
    )

pub returns : goal.returns
returns c =
    let h = c.loop-c in
    let f = h.invariant.3 in
    (sym (h.invariant.2 ∙ scan_end (beats c.args.self.now) _ c.args.m _ _ c.requires.0.between h.c h.invariant.0 (omega (arith, c.loop-c-test.false, f.same))), f)
