-- `row::body_holds` makes the two tests that the definition names. Assumes nothing.
use Rattle.lpod.specs.Satisfied.{body_holds, none_in}
use Rattle.words.proofs.row.body_holds.Goals as goal

pub returns-then-pos_in : goal.returns-then-pos_in
unfolding body_holds none_in
returns-then-pos_in c = rw (← c.pos_in.ensures, c.if-pos_in.true, ← c.neg_in.ensures)

pub returns : goal.returns
unfolding body_holds
returns c = rw (← c.pos_in.ensures, c.if-pos_in.false)
