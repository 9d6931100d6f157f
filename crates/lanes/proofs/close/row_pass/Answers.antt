-- `close::row_pass`: a row whose body holds in no lane changes nothing. Assumes nothing.
use Prim.Native.Nat.{ℕ, ◌+◌, ◌*◌, ◌≤◌}
use native.Mathlib.Omega.{arith}
use Rattle.words.specs.Coded.{rule_in, pos_set}
use Rattle.lanes.specs.Lanes.{column}
use Rattle.lanes.proofs.Words.{full}
use Rattle.lanes.proofs.Passing.{idle_ok, idle_wait, idle_fire, idle_grow, row_ok, row_wait, row_fire, row_grow}
use Rattle.lanes.proofs.close.row_pass.Goals as goal

pub returns-then-x-eq0 : goal.returns-then-x-eq0
returns-then-x-eq0 c =
    let x = c.body-x in
    let r = rule_in c.args.row in
    let I : ℕ → ℕ = λ j. 64 * c.args.block.number + j in
    let col : ℕ → ℕ = λ j. column c.args.cur.now j in (
      λ j l. idle_ok r (I j) (col j) x.result j (x.ensures j l) c.if-x-eq0.true l,
      λ j l. idle_wait r (I j) (col j) x.result j (x.ensures j l) c.if-x-eq0.true,
      λ j l. idle_fire r (I j) (col j) x.result j (x.ensures j l) c.if-x-eq0.true,
      λ j l. idle_grow r (I j) (col j) x.result j (x.ensures j l) c.if-x-eq0.true,
    )

pub returns : goal.returns
unfolding rule_in pos_set
returns c =
    let h = c.head_pass-h in
    let f = c.all_in-fire in
    let x = c.body-x in
    let r = rule_in c.args.row in
    let I : ℕ → ℕ = λ j. 64 * c.args.block.number + j in
    let col : ℕ → ℕ = λ j. column c.args.cur.now j in
    let kf : f.result ≤ full = omega (arith, f.type_inv) in (
      λ j l. row_ok r (I j) (col j) x.result j (x.ensures j l) l f.result kf (f.ensures j l) _ (c.args.block.made.1 j l) h.result.none (omega (arith, h.type_inv)) (h.ensures.0 j l),
      λ j l. row_wait r (I j) (col j) x.result j (x.ensures j l) l f.result kf (f.ensures j l),
      λ j l. row_fire r (I j) (col j) x.result j (x.ensures j l) l f.result kf (f.ensures j l) _ (c.args.block.made.1 j l) _ (h.ensures.1 j l),
      λ j l. row_grow r (I j) (col j) x.result j (x.ensures j l) l f.result kf (f.ensures j l) _ (c.args.block.made.1 j l) _ (h.ensures.2 j l),
    )
