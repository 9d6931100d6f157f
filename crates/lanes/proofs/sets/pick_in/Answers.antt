-- `sets::pick_in` lends as many words as there are blocks up to top. Assumes nothing.
use Rattle.lanes.proofs.Listed.{lent_words}
use Rattle.lanes.proofs.sets.pick_in.Goals as goal

pub pick_with-requires : goal.pick_with-requires
pick_with-requires g c = lent_words c.args.p.top c.words.result g.row.N c.words.ensures c.requires.enough
