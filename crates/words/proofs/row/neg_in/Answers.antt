-- `row::neg_in` asks whether the body's set and s have an atom in common. Assumes nothing.
use mathlib.Core.Path.{sym, ap, ◌∙◌}
use mathlib.Core.Bool.{not}
use Prim.Native.Nat.{ℕ, ◌/◌, ◌%◌}
use native.Mathlib.Omega.{arith}
use lib.Dec.{eqb}
use Rattle.words.specs.Coded.{rule_in, neg_set}
use Rattle.words.proofs.Bodies.{body_some}
use Rattle.words.proofs.row.neg_in.Goals as goal

pub returns : goal.returns
unfolding rule_in neg_set
returns c =
    let a = c.args in
    ap (λ (k : ℕ). not (eqb k 0)) c.common.ensures ∙ sym (body_some (a.row / 65536 % 65536) a.s (omega arith))
