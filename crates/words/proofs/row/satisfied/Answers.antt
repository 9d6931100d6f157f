-- `row::satisfied`: where the body holds the head decides, and else the row is satisfied. Assumes nothing.
use Rattle.lpod.specs.Satisfied.{satisfies}
use Rattle.words.proofs.row.satisfied.Goals as goal

pub returns-then-body_holds : goal.returns-then-body_holds
unfolding satisfies
returns-then-body_holds c = rw (← c.body_holds.ensures, c.if-body_holds.true, ← c.head_in.ensures)

pub returns : goal.returns
unfolding satisfies
returns c = rw (← c.body_holds.ensures, c.if-body_holds.false)
