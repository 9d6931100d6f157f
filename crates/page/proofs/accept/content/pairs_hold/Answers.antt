-- `pairs_hold` answers whether the pairs of its run are in order and share no atom. Assumes nothing.
use Prim.Native.Nat.{◌+◌, ◌*◌, ◌-◌}
use mathlib.Core.Path.{◌≡◌, refl, sym, ◌∙◌}
use native.Mathlib.Nat.{sub-zero, add-zero}
use native.Mathlib.Omega.{arith}
use borrow.Author.Tests.{le-ltb, lt-ltb}
use Rattle.page.specs.Refusals.{in_order}
use Rattle.page.proofs.Scan.{pairs_step, pairs_none, hold_crossed, hold_shared, hold_go, hold_none}
use Rattle.page.proofs.accept.content.pairs_hold.Goals as goal

pub loop-k-init : goal.loop-k-init
loop-k-init c = rw (add-zero, sub-zero)

pub returns-then-other-one : goal.returns-then-other-one
unfolding in_order
returns-then-other-one c =
    let h = c.loop-k in
    let a = c.args in
    sym (h.invariant ∙ hold_crossed _ _ _
    (pairs_step a.page.now (a.from + 2 * h.k) (a.n - h.k) (a.n - (h.k + 1)) (omega arith) _ refl _ _ c.byte_at-one.ensures c.byte_at-other.ensures)
    (le-ltb _ _ c.if-other-one.true))

pub returns-then-not-apart_from : goal.returns-then-not-apart_from
returns-then-not-apart_from c =
    let h = c.loop-k in
    let a = c.args in
    sym (h.invariant ∙ hold_shared _ _ _
    (pairs_step a.page.now (a.from + 2 * h.k) (a.n - h.k) (a.n - h.k - 1) (omega arith) _ refl _ _ c.byte_at-one.ensures c.byte_at-other.ensures)
    _ c.apart_from.ensures c.if-not-apart_from.true)

pub loop-k-preserved : goal.loop-k-preserved
unfolding in_order
loop-k-preserved c =
    let h = c.loop-k in
    let a = c.args in
    let left : a.n - (h.k + 1) ≡ a.n - h.k - 1 = omega arith in
    let place : a.from + 2 * (h.k + 1) ≡ a.from + 2 * h.k + 2 = omega arith in
    h.invariant ∙ hold_go _ _ _
    (pairs_step a.page.now (a.from + 2 * h.k) (a.n - h.k) (a.n - h.k - 1) (omega arith) _ refl _ _ c.byte_at-one.ensures c.byte_at-other.ensures)
    (lt-ltb _ _ c.if-other-one.false) _ c.apart_from.ensures c.if-not-apart_from.false
    ∙ rw (left, place)

pub returns : goal.returns
returns c =
    let h = c.loop-k in
    let a = c.args in
    sym (h.invariant ∙ hold_none _ (pairs_none a.page.now _ (a.n - h.k) (omega arith)))
