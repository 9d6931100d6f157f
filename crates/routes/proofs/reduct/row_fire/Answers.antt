-- `row_fire` adds the row's first head atom in the set, where its body lets it. Assumes nothing.
use Rattle.std.proofs.Common.{rules}
use mathlib.Core.Path.{sym, ◌∙◌}
use Rattle.words.specs.Coded.{rule_in}
use Rattle.routes.proofs.HeadFirst.{fire_first}
use Rattle.routes.proofs.reduct.row_fire.Goals as goal

pub returns : goal.returns
returns c =
    let a = c.args in
    fire_first (rule_in a.row) a.set a.s a.t c.map_or.result c.ranges.set.fits (sym c.neg_in.ensures ∙ c.if-neg_in.false)
    (sym c.pos_in.ensures ∙ c.if-not-pos_in.false) (rw (← c.first_in_head.ensures) (search rules))
