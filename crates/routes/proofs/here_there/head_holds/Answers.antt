-- `head_holds` looks the head's first atom in `there` up in `here`. Assumes nothing.
use Rattle.std.proofs.Common.{rules}
use Rattle.words.specs.Coded.{rule_in}
use Rattle.routes.proofs.HeadsHold.{by_first}
use Rattle.routes.proofs.here_there.head_holds.Goals as goal

pub returns : goal.returns
returns c =
    let a = c.args in
    by_first (rule_in a.row).head a.here a.there c.is_some_and.result (rw (← c.first_in_head.ensures) (search rules))
