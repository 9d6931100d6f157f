-- `word::in_each` goes from the lowest atom up. Assumes nothing.
use mathlib.Core.Path.{sym, ◌∙◌}
use Rattle.atoms.specs.Atoms.{has}
use Rattle.lanes.specs.Lanes.{column}
use Rattle.lanes.proofs.AtomByAtom.{member_small}
use Rattle.lanes.proofs.Bodies.{each_turn, each_end}
use Rattle.lanes.proofs.word.in_each.Goals as goal

pub at-requires : goal.at-requires
at-requires c = member_small _ _ _ c.in-Some.ensures.steps

pub loop-a-preserved : goal.loop-a-preserved
loop-a-preserved c =
    let a = c.args in
    λ j l. c.loop-a.invariant j l ∙ each_turn _ _ _ c.in-Some.ensures.steps a.w.now _ c.at.ensures a.turned c.loop-a.y j

pub returns : goal.returns
returns c =
    let a = c.args in
    λ j l. sym (c.loop-a.invariant j l ∙ each_end _ c.in-None.ensures.steps.0 (has a.turned j) (has c.loop-a.y j) (column a.w.now j))
