-- `row::head_in`: some head atom is in s where the first such has a place. Assumes nothing.
use mathlib.Core.Path.{sym, ap, ◌∙◌}
use mathlib.Core.Bool.{not}
use Prim.Native.Nat.{ℕ}
use lib.Dec.{eqb}
use Rattle.words.specs.Coded.{rule_in}
use Rattle.words.proofs.Places.{some_place}
use Rattle.words.proofs.row.head_in.Goals as goal

pub returns : goal.returns
returns c =
    let a = c.args in
    ap (λ (k : ℕ). not (eqb k 0)) c.head_place.ensures ∙ sym (some_place (rule_in a.row).head a.s 0)
