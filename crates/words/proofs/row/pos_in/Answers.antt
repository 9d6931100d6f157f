-- `row::pos_in` asks whether the body's set is a part of s. Assumes nothing.
use mathlib.Core.Path.{sym, ◌∙◌}
use Prim.Native.Nat.{◌%◌}
use native.Mathlib.Omega.{arith}
use Rattle.words.specs.Coded.{rule_in, pos_set}
use Rattle.words.proofs.Bodies.{body_all}
use Rattle.words.proofs.row.pos_in.Goals as goal

pub returns : goal.returns
unfolding rule_in pos_set
returns c =
    let a = c.args in
    c.part_of.ensures ∙ sym (body_all (a.row % 65536) a.s (omega arith))
