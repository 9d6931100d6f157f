-- `display::display` hands on the pick's refusal. Its other ends are found by the lemmas that it names. Assumes nothing.
use Rattle.display.proofs.Turns.{by_pick}
use Rattle.display.proofs.display.Goals as goal

pub returns-in_err-set : goal.returns-in_err-set
returns-in_err-set c = by_pick _ _ _ _ _ c.from_residual.ensures.1 c.in_err-set.ensures
