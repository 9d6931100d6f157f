-- `rank::compare` goes through the degrees. What is kept: the lanes that won and those that lost at a degree before the one in hand,
-- and those in which all is equal up to there. Assumes nothing.
use Prim.Native.Nat.{◌+◌, ◌-◌}
use native.Mathlib.Omega.{arith}
use Rattle.words.specs.Coded.{rules_in}
use Rattle.lanes.proofs.Levels.{one_longest, compare_start, compare_turn, compare_stop, compare_end}
use Rattle.lanes.proofs.rank.compare.Goals as goal

pub loop-k-init : goal.loop-k-init
loop-k-init c =
    let a = c.args in
    compare_start a.rules.rows.now a.grades.now a.b a.among

pub returns-then-same-eq0 : goal.returns-then-same-eq0
returns-then-same-eq0 c =
    let x = c.at_degree-l in
    let h = c.loop-k in
    let a = c.args in
    let r = a.rules.rows.now in
    let g = a.grades.now in
    compare_stop r g a.b a.among (h.k + 1 - 1) _ _ _ (omega (arith, c.loop-k-test.true, c.requires.2)) c.if-same-eq0.true
    (compare_turn r g a.b a.among h.k h.same h.won h.lost x.result.up x.result.down (omega arith) (omega (arith, x.type_inv)) (omega (arith, x.type_inv)) x.ensures h.invariant)

pub loop-k-preserved : goal.loop-k-preserved
loop-k-preserved c =
    let x = c.at_degree-l in
    let h = c.loop-k in
    let a = c.args in
    compare_turn a.rules.rows.now a.grades.now a.b a.among h.k h.same h.won h.lost x.result.up x.result.down (omega arith) (omega (arith, x.type_inv)) (omega (arith, x.type_inv))
    x.ensures h.invariant

-- the last degree is done
pub returns-else-same-eq0 : goal.returns-else-same-eq0
returns-else-same-eq0 c =
    let x = c.at_degree-l in
    let h = c.loop-k in
    let a = c.args in
    let r = a.rules.rows.now in
    let g = a.grades.now in
    compare_end r g a.b a.among (h.k + 1 - 1) _ _ _ (omega (arith, c.requires.2))
    (compare_turn r g a.b a.among h.k h.same h.won h.lost x.result.up x.result.down (omega arith) (omega (arith, x.type_inv)) (omega (arith, x.type_inv)) x.ensures h.invariant)

-- there is a degree
pub returns : goal.returns
returns c = absurd (omega (arith, c.requires.2, one_longest (rules_in c.args.rules.rows.now)))
