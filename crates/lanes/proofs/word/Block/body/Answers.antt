-- `Block::body`: the upper atoms of the body are the same in the whole block. Assumes nothing.
use mathlib.Core.Path.{sym, ◌∙◌}
use Rattle.words.specs.Coded.{pos_set, neg_set}
use Rattle.lanes.proofs.Bodies.{body_no_pos, body_no_neg, body_low}
use Rattle.lanes.proofs.word.Block.body.Goals as goal

pub returns-then-not-part_of : goal.returns-then-not-part_of
unfolding pos_set
returns-then-not-part_of c =
    let a = c.args in
    λ j l. body_no_pos a.row a.self.number j l (sym c.part_of.ensures ∙ c.if-not-part_of.true)

pub returns-then-common-ne0 : goal.returns-then-common-ne0
unfolding neg_set
returns-then-common-ne0 c =
    let a = c.args in
    λ j l. body_no_neg a.row a.self.number j l (λ e. c.if-common-ne0.true (c.common.ensures ∙ e))

pub returns : goal.returns
unfolding pos_set neg_set
returns c =
    λ j l. body_low c.args.row c.args.self.number j l (sym c.part_of.ensures ∙ c.if-not-part_of.false) (sym c.common.ensures ∙ c.if-common-ne0.false) _ c.requires
