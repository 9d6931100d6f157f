-- `read::packed` goes from the last literal to the first. Assumes nothing.
use mathlib.Core.Path.{◌≡◌, ◌∙◌}
use Prim.Native.Nat.{◌+◌, ◌-◌}
use native.Mathlib.Nat.{add-zero, sub-zero}
use native.Mathlib.Omega.{arith}
use Rattle.page.specs.Program.{literals}
use Rattle.page.proofs.Scan.{literals_step, literals_none}
use Rattle.words.proofs.Digits.{packed_step, packed_none}
use Rattle.words.proofs.read.packed.Goals as goal

pub loop-k-init : goal.loop-k-init
loop-k-init c =
    let a = c.args in
    packed_none _ (literals_none a.page.now (a.from + a.n) (a.n - a.n) (omega arith))

pub loop-k-preserved : goal.loop-k-preserved
loop-k-preserved c =
    let h = c.loop-k in
    let a = c.args in
    let page = a.page.now in
    packed_step (literals page (a.from + (h.k - 1)) (a.n - (h.k - 1))) (literals page (a.from + h.k) (a.n - h.k)) c.from-a.result h.h
    (literals_step page (a.from + (h.k - 1)) (a.n - (h.k - 1)) (a.n - h.k) (omega arith) _ (omega arith) _ (c.from-a.ensures ∙ c.byte_at.ensures ∙ rw c.from.ensures))
    h.invariant

pub returns : goal.returns
returns c =
    let h = c.loop-k in
    let z : h.k ≡ 0 = omega arith in
    h.invariant ∙ rw (z, add-zero, sub-zero)
