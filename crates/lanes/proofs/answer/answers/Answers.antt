-- `answer::answers`: the pairs, then the rows and the passes. Assumes nothing.
use Prim.Native.Nat.{ℕ, ◌+◌, ◌*◌}
use mathlib.Core.Path.{ap, ◌∙◌, subst}
use lib.Dec.{T}
use Rattle.atoms.specs.Atoms.{has}
use Rattle.atoms.proofs.Truth.{and_l}
use Rattle.atoms.proofs.Bits.{has_zero}
use Rattle.lanes.proofs.Answering.{answer_none, answer_lane}
use Rattle.lanes.proofs.answer.answers.Goals as goal

pub returns-then-ok-eq0 : goal.returns-then-ok-eq0
returns-then-ok-eq0 c =
    let a = c.args in
    λ j l.
    has_zero j ∙ answer_none a.rules.rows.now a.pairs.now a.flags (64 * a.b + j) (has a.x j) (has c.no_pair-ok.result j) _ (c.to_block.ensures.1 j l) (c.no_pair-ok.ensures j l)
    (ap (λ (y : ℕ). has y j) c.if-ok-eq0.true ∙ has_zero j)

pub supported-requires : goal.supported-requires
supported-requires c = λ j l t. c.requires.1 j l (and_l (has c.args.x j) _ (subst T (c.no_pair-ok.ensures j l) t))

pub returns : goal.returns
returns c =
    let a = c.args in
    λ j l.
    answer_lane a.rules.rows.now a.pairs.now a.flags (64 * a.b + j) (has a.x j) (has c.no_pair-ok.result j) _ (c.to_block.ensures.1 j l) (c.no_pair-ok.ensures j l)
    (c.requires.1 j l) _ (c.supported.ensures j l)
