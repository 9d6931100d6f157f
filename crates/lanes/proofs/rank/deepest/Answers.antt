-- `rank::deepest` goes through the rows. What is kept: the longest head is the longest so far or one of the rows that are left. Assumes nothing.
use mathlib.Core.Path.{refl, sym, ◌∙◌}
use native.Mathlib.Omega.{arith}
use Rattle.words.specs.Coded.{rule_in, rules_in}
use Rattle.words.proofs.Rest.{rest_step, rest_none}
use Rattle.lanes.proofs.Levels.{longest_start, longest_turn, longest_end}
use Rattle.lanes.proofs.rank.deepest.Goals as goal

pub loop-word-init : goal.loop-word-init
unfolding rules_in
loop-word-init c = (omega arith, longest_start _)

pub loop-word-preserved : goal.loop-word-preserved
loop-word-preserved c =
    let k = c.head_count in
    let h = c.loop-word in
    let m = c.max-most in (
      omega (arith, m.ensures, h.invariant.0),
      h.invariant.1 ∙ longest_turn _ _ _ h.most k.result m.result (rest_step rule_in c.args.rows.now h.word-index (omega arith) _ refl) k.ensures m.ensures,
    )

pub returns : goal.returns
returns c =
    let h = c.loop-word in
    sym (h.invariant.1 ∙ longest_end _ h.most (rest_none rule_in c.args.rows.now h.word-index (omega arith)) h.invariant.0)
