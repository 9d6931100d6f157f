-- `rises_by` answers whether the bytes it steps over rise strictly. Assumes nothing.
use Prim.Native.Nat.{◌+◌, ◌-◌}
use mathlib.Core.Path.{◌≡◌, sym, ◌∙◌}
use native.Mathlib.Omega.{arith}
use Rattle.page.proofs.Scan.{rises_go, rises_stop, rises_end}
use Rattle.page.proofs.accept.content.rises_by.Goals as goal

pub loop-k-init : goal.loop-k-init
loop-k-init c =
    let all : c.args.n + 1 - 1 ≡ c.args.n = omega arith in
    record { near = omega arith; rest = rw all }

pub returns-then-byte_at : goal.returns-then-byte_at
returns-then-byte_at c =
    let h = c.loop-k in
    let a = c.args in
    sym (h.invariant.rest ∙ rises_stop a.page.now a.step h.at (a.n + 1 - h.k) (a.n - h.k) _ _ (omega arith) (omega arith)
    c.byte_at-in-loop-k.ensures (c.byte_at.ensures ∙ rw c.from.ensures) c.if-byte_at.true)

pub loop-k-preserved : goal.loop-k-preserved
loop-k-preserved c =
    let h = c.loop-k in
    let a = c.args in
    let left : a.n + 1 - (h.k + 1) ≡ a.n - h.k = omega arith in
    record {
      near = omega (arith, c.ranges.step.fits, c.from.ensures, h.invariant.near);
      rest = h.invariant.rest ∙ rises_go a.page.now a.step h.at (a.n + 1 - h.k) (a.n - h.k) _ _ (omega arith) (omega arith)
          c.byte_at-in-loop-k.ensures (c.byte_at.ensures ∙ rw c.from.ensures) c.if-byte_at.false ∙ rw (left, c.from.ensures);
    }

pub returns : goal.returns
returns c =
    let h = c.loop-k in
    let a = c.args in
    sym (h.invariant.rest ∙ rises_end a.page.now a.step h.at (a.n + 1 - h.k) (omega arith))
