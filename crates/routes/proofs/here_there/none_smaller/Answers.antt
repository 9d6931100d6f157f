-- `none_smaller` asks each number below `there`. A list that is read at H makes `ranges` say that H is one of them. Assumes nothing.
use Rattle.std.proofs.Common.{rules, arith, ◌≡◌, refl, get_or}
use Rattle.std.proofs.lemmas.Grind.{common_steps}
use Rattle.std.proofs.iter.runs.Sources.{ranges}
use Rattle.routes.proofs.HeadsHold.{none_found}
use Rattle.routes.proofs.here_there.none_smaller.Goals as goal

pub returns : goal.returns
returns c =
    let a = c.args in
    none_found a.rows.now a.flags a.there c.any.result
    (λ e H h. let place : get_or a.rows.now H 0 ≡ get_or a.rows.now H 0 = refl in grind (arith, common_steps, ranges, e, h, place))
    (λ e. search (rules, ranges))
