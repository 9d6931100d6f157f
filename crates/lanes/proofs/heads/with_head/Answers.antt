-- `heads::with_head` adds one head atom after the other. Assumes nothing.
use mathlib.Core.Path.{sym, ◌∙◌}
use Prim.Native.Nat.{◌+◌}
use native.Mathlib.Numerals.{add-one}
use native.Mathlib.Omega.{arith}
use lib.ListN.{drop, drop_of_length-le}
use lib.Seq.{drop-cons}
use Rattle.words.specs.Coded.{rule_in}
use Rattle.words.proofs.Sets.{atoms_step, atoms_none}
use Rattle.lanes.proofs.heads.with_head.Goals as goal

pub loop-k-preserved : goal.loop-k-preserved
loop-k-preserved c =
    let h = c.loop-k in
    let head = (rule_in c.args.word).head in
    let a = c.head_atom in
    h.invariant ∙ atoms_step h.t c.with_atom-t.result a.result (drop h.k head) (drop (h.k + 1) head)
    (drop-cons head h.k 0 (omega arith) ∙ rw (← a.ensures, add-one)) c.with_atom-t.ensures

pub returns : goal.returns
returns c =
    let h = c.loop-k in
    sym (h.invariant ∙ atoms_none h.t _ (drop_of_length-le (rule_in c.args.word).head (omega arith)))
