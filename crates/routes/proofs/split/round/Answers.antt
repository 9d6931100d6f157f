-- `round` lets one option fire after the other; the flags come in at the end. Assumes nothing.
use Rattle.std.proofs.Common.{rules, ◌≡◌, ◌∙◌, ℕ, reverse}
use Rattle.std.specs.List.{fold}
use Rattle.lpod.specs.Least.{fire}
use Rattle.lpod.specs.Split.{gl_row}
use Rattle.routes.specs.Choice.{chosen}
use Rattle.routes.specs.declared.split.Chosen.{Chosen}
use Rattle.routes.proofs.SplitRound.{all_fire, round_flags}
use Rattle.routes.proofs.split.round.Goals as goal

pub returns : goal.returns
returns c =
    let a = c.args in
    let e : c.fold-rows.result ≡ fold (λ (t : ℕ) (k : Chosen). fire (gl_row a.set (chosen k)) a.s t) a.s (reverse a.choice.now) = search rules in
    c.union.ensures ∙ rw (e, all_fire a.choice.now a.set a.s a.s) (round_flags a.choice.now a.flags a.set a.s a.s c.ranges.flags.fits)
