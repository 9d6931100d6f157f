-- `rank::exact`: from degree 2 on the head atoms before the last are passed over, one after the other. What is kept: the row has the
-- degree where the lane is left and the first of the head atoms that are left is at that place. Assumes nothing.
use mathlib.Core.Path.{sym, ap, ◌∙◌}
use mathlib.Core.Bool.{Bool, ◌&&◌}
use Prim.Native.Nat.{◌+◌, ◌-◌, ◌≤◌}
use native.Mathlib.Omega.{arith}
use Rattle.atoms.specs.Atoms.{has}
use Rattle.atoms.proofs.Bits.{has_and}
use Rattle.words.specs.Coded.{head_digits}
use Rattle.lanes.proofs.Levels.{place_pass, place_meet, one_bare, one_head, later_start, later_past}
use Rattle.lanes.proofs.rank.exact.Goals as goal

pub returns-then-n-eq0 : goal.returns-then-n-eq0
unfolding head_digits
returns-then-n-eq0 c =
    let x = c.body-x in
    let n = c.head_count-n in
    let a = c.args in
    λ j l. one_bare a.word a.block.number x.result n.result x.ensures n.ensures j l a.k c.if-k-eq1.true (omega (arith, x.type_inv)) c.if-n-eq0.true

pub returns-then-k-eq1 : goal.returns-then-k-eq1
unfolding head_digits
returns-then-k-eq1 c =
    let n = c.head_count-n in
    let x = c.body-x in
    let a = c.args in
    λ j l. one_head a.word a.block.number x.result n.result x.ensures n.ensures j l a.k c.if-k-eq1.true (omega (arith, x.type_inv))
    c.if-n-eq0.false a.block.words.now a.block.made c.at.result c.at.ensures

pub returns-then-n-k : goal.returns-then-n-k
returns-then-n-k c =
    let x = c.body-x in
    let n = c.head_count-n in
    let a = c.args in
    λ j l. later_past a.word a.block.number x.result n.result x.ensures n.ensures j l a.k c.requires.1 c.if-k-eq1.false c.if-n-k.true

pub loop-p-init : goal.loop-p-init
unfolding head_digits
loop-p-init c =
    let x = c.body-x in
    let n = c.head_count-n in
    let a = c.args in
    λ j l. later_start a.word a.block.number x.result n.result x.ensures n.ensures j l a.k c.requires.1 c.if-k-eq1.false

pub loop-p-preserved : goal.loop-p-preserved
loop-p-preserved c =
    let h = c.loop-p in
    let n = c.head_count-n.result in
    let a = c.args in
    λ j l. h.invariant j l ∙ place_pass a.block.number a.block.words.now a.block.made h._p a.k (n + 1 - h._p) (n + 1 - (h._p + 1)) h.d c.at-in-loop-p.result
    (omega (arith, c.if-n-k.false, c.loop-p-test.true)) c.at-in-loop-p.ensures j l (omega (arith, c.at-in-loop-p.type_inv)) c.loop-p-test.true h.t

pub returns : goal.returns
returns c =
    let h = c.loop-p in
    let n = c.head_count-n.result in
    let a = c.args in
    let at_last : h._p ≤ a.k = omega (arith, c.requires.1) in
    λ j l. has_and h.t c.at-2.result j
    ∙ ap (λ (q : Bool). has h.t j && q) (sym (place_meet a.block.number a.block.words.now a.block.made h._p a.k (n + 1 - h._p) (n - h._p) h.d c.at-2.result
    (omega (arith, c.if-n-k.false, at_last)) c.at-2.ensures j l c.requires.1 (omega (arith, c.loop-p-test.false, at_last))))
    ∙ sym (h.invariant j l)
