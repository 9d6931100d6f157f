-- `count_rounds` counts a round that adds something. Assumes nothing.
use Rattle.routes.proofs.Rounds.{made_round}
use Rattle.routes.proofs.reduct.count_rounds.Goals as goal

pub loop-count-preserved : goal.loop-count-preserved
loop-count-preserved c =
    let r = c.round-next in
    made_round _ _ _ r.result r.ensures c.loop-count.invariant c.if-next-reached.false
