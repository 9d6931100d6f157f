-- `search::unmark`: the word of s's block without s. Assumes nothing.
use lib.ListN.{length-set}
use Rattle.lanes.proofs.Index.{unmarked}
use Rattle.lanes.proofs.search.unmark.Goals as goal

pub returns : goal.returns
returns c =
    let m = c.args.marks.now in
    (length-set m _ _, unmarked m c.args.s c.others.result c.requires c.others.ensures)
