-- `row::head_place` goes through the head's digits and stops at the first that is in s. Assumes nothing.
use mathlib.Core.Path.{◌≡◌, sym, ◌∙◌}
use Prim.Native.Nat.{◌+◌, ◌-◌, ◌/◌, ◌%◌}
use native.Mathlib.Nat.{sub-zero}
use native.Mathlib.Omega.{arith}
use Rattle.words.specs.Coded.{rule_in, head_length, head_digits}
use Rattle.words.proofs.Places.{place_go, place_stop, place_none, digits_step, digits_none, digits_length}
use Rattle.words.proofs.row.head_place.Goals as goal

pub loop-k-init : goal.loop-k-init
unfolding rule_in head_length head_digits
loop-k-init c =
    let e : c.head_count-n.result ≡ c.args.row / 4294967296 % 256 = c.head_count-n.ensures ∙ digits_length _ _ in
    rw (sub-zero, e)

pub returns-then-holds : goal.returns-then-holds
returns-then-holds c =
    let h = c.loop-k in
    let n = c.head_count-n.result in
    sym (h.invariant ∙ place_stop c.args.s _ (digits_step (n - h.k) (n - (h.k + 1)) h.h (omega arith)) (sym c.holds.ensures ∙ c.if-holds.true))

pub loop-k-preserved : goal.loop-k-preserved
loop-k-preserved c =
    let h = c.loop-k in
    let n = c.head_count-n.result in
    h.invariant ∙ place_go c.args.s (h.k + 1) (digits_step (n - h.k) (n - (h.k + 1)) h.h (omega arith)) (sym c.holds.ensures ∙ c.if-holds.false) (h.k + 1 + 1) (omega arith)

pub returns : goal.returns
returns c =
    let h = c.loop-k in
    sym (h.invariant ∙ place_none _ _ (digits_none (c.head_count-n.result - h.k) h.h (omega arith)))
