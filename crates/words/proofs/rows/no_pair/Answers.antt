-- `no_pair` asks each pair. Assumes nothing.
use Rattle.std.proofs.Common.{rules, arith, not, ◌&&◌}
use Rattle.std.proofs.lemmas.Grind.{common_steps}
use Rattle.atoms.specs.Atoms.{has}
use Rattle.lpod.specs.Satisfied.{no_pair}
use Rattle.lpod.proofs.Each.{any_every}
use Rattle.words.specs.Coded.{pair_in, pairs_in}
use Rattle.words.proofs.rows.no_pair.Goals as goal

pub returns : goal.returns
unfolding no_pair pairs_in
returns c =
    let s = c.args.s in
    any_every (λ q. not (has s q.one && has s q.other)) pair_in 0 c.args.pairs.now c.any.result (λ e k h. grind (arith, common_steps, e, h)) (λ e. search rules)
