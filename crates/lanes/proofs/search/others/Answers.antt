-- `search::others`: where m stands in block b its lane is taken out. Assumes nothing.
use Rattle.lanes.proofs.Index.{others_but}
use Rattle.lanes.proofs.search.others.Goals as goal

pub returns : goal.returns
returns c j l = others_but _ _ _ j l c.if-m-b.false
