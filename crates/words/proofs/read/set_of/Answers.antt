-- `read::set_of` adds one literal after the other. Assumes nothing.
use mathlib.Core.Path.{sym, ◌∙◌}
use Prim.Native.Nat.{◌+◌, ◌-◌}
use native.Mathlib.Nat.{sub-zero, add-zero}
use native.Mathlib.Omega.{arith}
use Rattle.page.specs.Program.{literals}
use Rattle.page.proofs.Scan.{literals_step, literals_none}
use Rattle.words.proofs.Sets.{atoms_first, atoms_step, atoms_none}
use Rattle.words.proofs.read.set_of.Goals as goal

pub loop-k-init : goal.loop-k-init
loop-k-init c =
    let a = c.args in
    rw (add-zero, sub-zero) (atoms_first (literals a.page.now a.from a.n))

pub loop-k-preserved : goal.loop-k-preserved
loop-k-preserved c =
    let h = c.loop-k in
    let a = c.args in
    h.invariant ∙ atoms_step h.s c.with_atom-s.result c.byte_at.result _ _
    (literals_step a.page.now (a.from + h.k) (a.n - h.k) (a.n - (h.k + 1)) (omega arith) _ (omega arith) _ (c.byte_at.ensures ∙ rw c.from.ensures)) c.with_atom-s.ensures

pub returns : goal.returns
returns c =
    let h = c.loop-k in
    let a = c.args in
    sym (h.invariant ∙ atoms_none h.s _ (literals_none a.page.now (a.from + h.k) (a.n - h.k) (omega arith)))
