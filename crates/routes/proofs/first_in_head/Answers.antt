-- `first_in_head` takes the head atom at the place, if there is one. Assumes nothing.
use Rattle.std.proofs.Common.{rules}
use Rattle.words.specs.Coded.{rule_in}
use Rattle.routes.proofs.HeadFirst.{find_place}
use Rattle.routes.proofs.first_in_head.Goals as goal

pub returns : goal.returns
returns c =
    let a = c.args in
    find_place (rule_in a.row).head a.set _ c.head_place.ensures _ c.checked_sub.ensures c.map.result (search rules)
