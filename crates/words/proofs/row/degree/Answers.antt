-- `row::degree`: the place in the head where the body holds, else 1. Assumes nothing.
use Rattle.lpod.specs.Degree.{degree}
use Rattle.words.proofs.row.degree.Goals as goal

pub returns-then-body_holds : goal.returns-then-body_holds
unfolding degree
returns-then-body_holds c = rw (← c.body_holds.ensures, c.if-body_holds.true, ← c.head_place.ensures)

pub returns : goal.returns
unfolding degree
returns c = rw (← c.body_holds.ensures, c.if-body_holds.false)
