-- `close::pass` takes one row after the other. Assumes nothing.
use Prim.Native.Nat.{◌+◌, ◌*◌}
use mathlib.Core.Path.{refl, sym, ◌∙◌}
use native.Mathlib.Omega.{arith}
use Rattle.atoms.proofs.Bits.{has_zero}
use Rattle.words.specs.Coded.{rule_in, rules_in}
use Rattle.words.proofs.Rest.{rest_step, rest_none}
use Rattle.lanes.specs.Lanes.{column}
use Rattle.lanes.proofs.Words.{has_full}
use Rattle.lanes.proofs.Passing.{ok_turn, ok_end, wait_turn, wait_end, pass_turn, pass_end, grow_turn, grow_end}
use Rattle.lanes.proofs.close.pass.Goals as goal

pub loop-n-init : goal.loop-n-init
unfolding rules_in
loop-n-init c =
    record {
      ok = λ j l. rw (has_full j l);
      waits = λ j l. rw (has_zero j);
      reached = λ j l. refl;
      grows = λ j l. rw (has_zero j);
    }

pub loop-n-preserved : goal.loop-n-preserved
loop-n-preserved c =
    let r = c.row_pass-r in
    let h = c.loop-n in
    let k = h.invariant in
    let e = rest_step rule_in c.args.rules.rows.now h.n (omega arith) _ refl in
    record {
      ok = λ j l. k.ok j l ∙ ok_turn e (64 * c.args.block.number + j) j h.ok _ (r.ensures.0 j l);
      waits = λ j l. k.waits j l ∙ wait_turn e (64 * c.args.block.number + j) j (column h.cur j) _ (r.ensures.2 j l) h.wait _ (r.ensures.1 j l);
      reached = λ j l. k.reached j l ∙ pass_turn e (64 * c.args.block.number + j) j (column h.cur j) _ (r.ensures.2 j l);
      grows = λ j l. k.grows j l ∙ grow_turn e (64 * c.args.block.number + j) j (column h.cur j) _ (r.ensures.2 j l) h.grew _ (r.ensures.3 j l);
    }

pub returns : goal.returns
returns c =
    let k = c.loop-n.invariant in
    let e = rest_none rule_in c.args.rules.rows.now c.loop-n.n (omega arith) in
    (λ j l. sym (k.ok j l ∙ ok_end e _ _), λ j l. sym (k.waits j l ∙ wait_end e _ _ _), λ j l. sym (k.reached j l ∙ pass_end e _ _), λ j l. sym (k.grows j l ∙ grow_end e _ _ _))
