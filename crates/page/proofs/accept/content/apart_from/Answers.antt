-- `apart_from` answers whether every pair of its run is apart from the given one. Assumes nothing.
use Prim.Native.Nat.{◌+◌, ◌*◌, ◌-◌}
use mathlib.Core.Path.{refl, sym, ◌∙◌}
use native.Mathlib.Nat.{sub-zero, add-zero}
use native.Mathlib.Omega.{arith}
use Rattle.page.specs.Refusals.{apart}
use Rattle.page.proofs.Scan.{pairs_step, pairs_none, every_go, every_stop, every_none}
use Rattle.page.proofs.accept.content.apart_from.Goals as goal

pub loop-k-init : goal.loop-k-init
loop-k-init c = rw (add-zero, sub-zero)

pub returns-then-not-fine : goal.returns-then-not-fine
unfolding apart
returns-then-not-fine c =
    let h = c.loop-k in
    let a = c.args in
    sym (h.invariant ∙ every_stop (apart (record { one = a.one; other = a.other })) _ _ _
    (pairs_step a.page.now (a.from + 2 * h.k) (a.n - h.k) (a.n - (h.k + 1)) (omega arith) _ refl _ _ c.byte_at-a.ensures c.byte_at-b.ensures) c.if-not-fine.true)

pub loop-k-preserved : goal.loop-k-preserved
unfolding apart
loop-k-preserved c =
    let h = c.loop-k in
    let a = c.args in
    h.invariant ∙ every_go (apart (record { one = a.one; other = a.other })) _ _ _
    (pairs_step a.page.now (a.from + 2 * h.k) (a.n - h.k) (a.n - (h.k + 1)) (omega arith) _ (omega arith) _ _ c.byte_at-a.ensures c.byte_at-b.ensures)
    c.if-not-fine.false

pub returns : goal.returns
returns c =
    let h = c.loop-k in
    let a = c.args in
    sym (h.invariant ∙ every_none (apart (record { one = a.one; other = a.other })) _ (pairs_none a.page.now _ (a.n - h.k) (omega arith)))
