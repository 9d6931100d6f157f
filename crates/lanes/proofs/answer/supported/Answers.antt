-- `answer::supported`: the passes in each lane, until each is settled. Assumes nothing.
use Prim.Native.Nat.{ℕ, ◌+◌, ◌*◌}
use mathlib.Core.Path.{refl, sym, ap, ◌∙◌, subst}
use native.Mathlib.Omega.{arith}
use lib.Bits.{bit_and}
use Rattle.atoms.specs.Atoms.{has}
use Rattle.atoms.proofs.Bits.{has_zero, test_inside}
use Rattle.words.specs.Coded.{rules_in, rules_with}
use Rattle.lanes.specs.Lanes.{column}
use Rattle.lanes.proofs.Closure.{Come, come_start, come_later}
use Rattle.lanes.proofs.Answering.{kept_start, kept_turn, kept_later, kept_end, right_none, stop, stop_end}
use Rattle.lanes.proofs.answer.supported.Goals as goal

pub loop-init : goal.loop-init
loop-init c =
    let a = c.args in
    let P = rules_in a.rules.rows.now in
    let w = c.flag_words-cur.ensures in
    record {
      kept = λ j l. kept_start P (64 * a.block.number + j) (has a.x j);
      come = λ j l t. subst (Come P a.flags (64 * a.block.number + j) 0) (sym (w j l)) (come_start P a.flags (64 * a.block.number + j) (omega arith) (test_inside a.flags (64 * a.block.number + j) (c.requires j l t)));
    }

pub returns-then-ok-eq0 : goal.returns-then-ok-eq0
unfolding rules_with
returns-then-ok-eq0 c =
    let h = c.loop in
    let P = rules_in c.args.rules.rows.now in
    let I : ℕ → ℕ = λ j. 64 * c.args.block.number + j in
    let r = c.pass-p in
    λ j l. has_zero j ∙ right_none P c.args.flags (I j) (has c.args.x j) _ (kept_turn P (I j) (has c.args.x j) h.counter h.ok _ j (h.invariant.kept j l) (r.ensures.0 j l))
    (ap (λ (y : ℕ). has y j) c.if-ok-eq0.true ∙ has_zero j)

pub returns-then-open-p-eq0 : goal.returns-then-open-p-eq0
unfolding rules_with
returns-then-open-p-eq0 c =
    let h = c.loop in
    let P = rules_in c.args.rules.rows.now in
    let I : ℕ → ℕ = λ j. 64 * c.args.block.number + j in
    let r = c.pass-p in
    let t = c.same-there in
    λ j l.
    stop P c.args.flags (I j) j l c.args.x (bit_and h.ok r.result.ok) t.result
    (kept_turn P (I j) (has c.args.x j) h.counter h.ok r.result.ok j (h.invariant.kept j l) (r.ensures.0 j l))
    (column h.cur j) _ (column c.args.block.words.now j) (omega (arith, t.type_inv)) (t.ensures j l) (c.args.block.made.1 j l)
    (omega arith) h.counter (h.invariant.come j l) (r.ensures.2 j l) r.result.wait r.result.grew (r.ensures.1 j l) (r.ensures.3 j l) c.if-open-p-eq0.true

pub loop-preserved : goal.loop-preserved
loop-preserved c =
    let h = c.loop in
    let P = rules_in c.args.rules.rows.now in
    let I : ℕ → ℕ = λ j. 64 * c.args.block.number + j in
    let r = c.pass-p in
    record {
      kept = λ j l. kept_later P (I j) (has c.args.x j) (h.counter + 1) (omega arith) _ (kept_turn P (I j) (has c.args.x j) h.counter h.ok r.result.ok j (h.invariant.kept j l) (r.ensures.0 j l));
      come = λ j l t. come_later P c.args.flags (I j) (omega arith) h.counter (h.counter + 1) (column h.cur j) _ refl (r.ensures.2 j l) (h.invariant.come j l t);
    }

pub returns : goal.returns
unfolding rules_with
returns c =
    let h = c.loop in
    let P = rules_in c.args.rules.rows.now in
    let I : ℕ → ℕ = λ j. 64 * c.args.block.number + j in
    let t = c.same in
    λ j l.
    stop_end P c.args.flags (I j) j l c.args.x h.ok t.result (kept_end P (I j) (has c.args.x j) h.counter (omega arith) (has h.ok j) (h.invariant.kept j l))
    (column h.cur j) (column h.cur j) (column c.args.block.words.now j) (omega (arith, t.type_inv)) (t.ensures j l) (c.args.block.made.1 j l)
    (omega arith) h.counter (h.invariant.come j l) refl (let b = c.args.block.small in omega arith) (omega arith)
