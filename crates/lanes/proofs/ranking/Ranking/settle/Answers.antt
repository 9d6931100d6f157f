-- `Ranking::settle` goes from one marked set to a later one. What is kept: no best set has lost its mark, s is marked, and nothing from m on up to s
-- is marked any more. Assumes nothing.
use mathlib.Core.Path.{refl, sym, ◌∙◌}
use Prim.Native.Nat.{◌+◌, ◌*◌, ◌<◌}
use native.Mathlib.Nat.{le_refl}
use native.Mathlib.Omega.{arith}
use Rattle.atoms.proofs.Bits.{inside_test}
use Rattle.lanes.specs.Left.{beats}
use Rattle.lanes.proofs.Seek.{next_passes}
use Rattle.lanes.proofs.Scan.{scan_start}
use Rattle.lanes.proofs.Index.{searched_left}
use Rattle.lanes.proofs.Clearing.{clear_left, clear_own, clear_rival}
use Rattle.lanes.proofs.Champion.{by_rows, reaches, found_marked, found_over, left_start, left_best, left_more, settled_here, settled_end, passed_on}
use Rattle.lanes.proofs.ranking.Ranking.settle.Goals as goal

pub loop-n-init : goal.loop-n-init
loop-n-init c = (le_refl _, c.ranges.m.fits, c.requires.1, left_start _ _, λ s l h t. omega arith)

pub rival_from-requires : goal.rival_from-requires
rival_from-requires c =
    let z = c.requires.0 in
    let f = c.loop-n.invariant.3 in
    (searched_left _ _ _ f.same f.less z, inside_test _ _ (λ i t. t), c.args.self.now.span.order, omega (arith, z.start, z.few))

pub pass_beaten-requires : goal.pass_beaten-requires
pass_beaten-requires c =
    let a = c.args in
    let v = beats a.self.now in
    let r = c.in-Some in
    let h = c.loop-n in
    let f = h.invariant.3 in
    let e = r.ensures.0 in
    let g = r.ensures.1 in
    let l : r.n < 65536 = omega arith in
    let o = found_over v h.marks h.s (64 * a.self.now.span.low) r.n e l in (
      searched_left _ _ _ (g.same ∙ f.same) (λ x t. f.less x (g.less x t)) c.requires.0,
      clear_own _ h.s h.marks _ g (by_rows _) h.invariant.2,
      clear_rival v h.s h.marks _ g (by_rows _) r.n (found_marked v h.marks h.s (64 * a.self.now.span.low) r.n e l) o,
      o,
    )

-- nothing is marked after s
pub returns-in_err-s : goal.returns-in_err-s
returns-in_err-s c =
    let h = c.loop-n in
    let i = h.invariant in
    let g = c.in-Some.ensures.1 in
    let e = c.in_err-s.ensures in
    let f = left_more _ (by_rows _) _ _ (left_more _ (by_rows _) _ h.marks i.3 _ (clear_left _ h.s _ _ g i.1 i.2)) _ e.1 in
    let n = passed_on _ _ _ e.1 _ h.s 65536 e.2 e.0 (λ x a b t. i.4 x a b (g.less x t)) in
    rw c.from_residual.ensures (settled_end _ _ _ f c.args.m 65536 (omega arith) refl n, f, n)

pub loop-n-smaller : goal.loop-n-smaller
loop-n-smaller c =
    let h = c.loop-n in
    let s = c.in_ok-s in
    omega (arith, reaches _ (h.s + 1) s.s s.ensures.0)

pub loop-n-preserved : goal.loop-n-preserved
loop-n-preserved c =
    let h = c.loop-n in
    let i = h.invariant in
    let g = c.in-Some.ensures.1 in
    let s = c.in_ok-s in
    let e = s.ensures in
    let l : s.s < 65536 = omega arith in (
      omega (arith, i.0, reaches _ (h.s + 1) s.s e.0),
      l,
      next_passes _ (h.s + 1) s.s e.0 l,
      left_more _ (by_rows _) _ _ (left_more _ (by_rows _) _ h.marks i.3 _ (clear_left _ h.s _ _ g i.1 i.2)) _ e.1,
      passed_on _ _ _ e.1 _ h.s s.s e.2 e.0 (λ x a b t. i.4 x a b (g.less x t)),
    )

-- nothing is preferred to s
pub returns : goal.returns
returns c =
    let a = c.args in
    let z = c.requires.0 in
    let r = c.in_default.ensures in
    let h = c.loop-n in
    let i = h.invariant in
    let e = r.0 ∙ sym (scan_start (beats a.self.now) h.marks h.s _ _ (λ x t. z.between x (i.3.less x t)) (omega (arith, z.start, z.few))) in (
      settled_here _ _ h.marks i.3 _ h.s i.0 i.1 i.4 (left_best _ (by_rows _) _ h.marks i.3 h.s 65536 i.1 i.2 e (le_refl 65536)),
      left_more _ (by_rows _) _ h.marks i.3 _ (clear_left _ h.s _ _ r.1 i.1 i.2),
      λ x b d t. i.4 x b d (r.1.less x t),
    )
