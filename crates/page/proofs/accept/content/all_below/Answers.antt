-- `all_below` answers whether every literal of its run is below the number of atoms. Assumes nothing.
use Prim.Native.Nat.{◌+◌, ◌-◌}
use mathlib.Core.Path.{refl, sym, ◌∙◌}
use native.Mathlib.Nat.{sub-zero, add-zero}
use native.Mathlib.Omega.{arith}
use borrow.Author.Tests.{le-ltb, lt-ltb}
use Rattle.page.specs.Refusals.{is_below}
use Rattle.page.proofs.Scan.{literals_step, literals_none, every_go, every_stop, every_none}
use Rattle.page.proofs.accept.content.all_below.Goals as goal

pub loop-k-init : goal.loop-k-init
loop-k-init c = rw (add-zero, sub-zero)

pub returns-then-atoms-from : goal.returns-then-atoms-from
unfolding is_below
returns-then-atoms-from c =
    let h = c.loop-k in
    let a = c.args in
    sym (h.invariant ∙ every_stop (is_below a.atoms) _ _ _
    (literals_step a.page.now (a.from + h.k) (a.n - h.k) (a.n - (h.k + 1)) (omega arith) _ refl _ (c.from.ensures ∙ c.byte_at.ensures)) (le-ltb _ _ c.if-atoms-from.true))

pub loop-k-preserved : goal.loop-k-preserved
unfolding is_below
loop-k-preserved c =
    let h = c.loop-k in
    let a = c.args in
    h.invariant ∙ every_go (is_below a.atoms) _ _ _
    (literals_step a.page.now (a.from + h.k) (a.n - h.k) (a.n - (h.k + 1)) (omega arith) _ (omega arith) _ (c.from.ensures ∙ c.byte_at.ensures)) (lt-ltb _ _ c.if-atoms-from.false)

pub returns : goal.returns
returns c =
    let h = c.loop-k in
    let a = c.args in
    sym (h.invariant ∙ every_none (is_below a.atoms) _ (literals_none a.page.now _ (a.n - h.k) (omega arith)))
