-- `fill::between`: the lanes of block 0 are the numbers of the lanes. Assumes nothing.
use Rattle.lanes.proofs.Filled.{between_made}
use Rattle.lanes.proofs.fill.between.Goals as goal

pub returns : goal.returns
returns c =
    let x = c.all_in-x in
    between_made c.args.flags c.args.top _ c.args.first.now.made x.result c.none_in.result x.ensures c.none_in.ensures
