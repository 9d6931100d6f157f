-- `answer::no_pair` takes one pair after the other. Assumes nothing.
use mathlib.Core.Path.{refl, sym, ◌∙◌}
use native.Mathlib.Omega.{arith}
use Rattle.words.specs.Coded.{pair_in, pairs_in}
use Rattle.words.proofs.Rest.{rest_step, rest_none}
use Rattle.lanes.specs.Lanes.{column}
use Rattle.lanes.proofs.Answering.{pair_turn, pair_end}
use Rattle.lanes.proofs.answer.no_pair.Goals as goal

pub loop-pair-init : goal.loop-pair-init
unfolding pairs_in
loop-pair-init c = λ j l. refl

pub loop-pair-preserved : goal.loop-pair-preserved
loop-pair-preserved c =
    let h = c.loop-pair in
    let a = c.args in
    λ j l.
    h.invariant j l ∙ pair_turn (rest_step pair_in a.pairs.now h.pair-index (omega arith) _ refl) (column a.w.now j) h.ok c.pair_held.result j l
    (omega (arith, c.pair_held.type_inv)) (c.pair_held.ensures j l)

pub returns : goal.returns
returns c =
    let h = c.loop-pair in
    λ j l. sym (h.invariant j l ∙ pair_end (rest_none pair_in c.args.pairs.now h.pair-index (omega arith)) _ _)
