-- `fill::answers` goes from block to block between. What is kept: the sets of the blocks that are done have their marks, and no other set has one.
-- Assumes nothing.
use Prim.Native.Nat.{◌/◌, ◌<◌}
use mathlib.Core.Path.{◌∙◌}
use native.Mathlib.Omega.{arith}
use lib.ListN.{length-set}
use Rattle.lpod.specs.Answer.{answer}
use Rattle.words.specs.Coded.{program_in}
use Rattle.lanes.proofs.Filled.{filled_none, filled_more, filled_all, inside_high, inside_self, lane_flags, lane_passes}
use Rattle.lanes.proofs.fill.answers.Goals as goal

pub invariant_of-span : goal.invariant_of-span
invariant_of-span c = record { order = inside_high c.args.flags c.args.top c.requires.0 }

pub loop-b-init : goal.loop-b-init
loop-b-init c =
    let a = c.args in
    record {
      long = c.requires.1.0;
      small = c.ranges.top.fits;
      most = omega arith;
      between = λ l. (inside_self (a.flags / 64), inside_high a.flags a.top c.requires.0);
      filled = filled_none (answer (program_in a.rules.rows.now a.pairs.now a.flags)) a.flags a.top a.marks.now c.requires.1.1;
    }

pub answers-requires : goal.answers-requires
answers-requires c =
    let h = c.loop-b in
    let l : h.b < 1024 = omega arith in
    (l, lane_flags c.args.flags c.args.top h.b _ (h.invariant.between l).0 c.between-x.ensures)

pub next-b-requires : goal.next-b-requires
next-b-requires c =
    let h = c.loop-b in
    let l : h.b < 1024 = omega arith in
    (l, (h.invariant.between l).0, (h.invariant.between l).1)

pub loop-b-preserved : goal.loop-b-preserved
loop-b-preserved c =
    let a = c.args in
    let h = c.loop-b in
    let k = h.invariant in
    let l : h.b < 1024 = omega arith in
    let n = c.next-b in
    let y = c.answers in
    let q = answer (program_in a.rules.rows.now a.pairs.now a.flags) in
    record {
      long = length-set h.marks h.b y.result ∙ k.long;
      small = k.small;
      most = n.ensures.1;
      between = n.ensures.3;
      filled = filled_more q a.flags a.top h.marks h.b n.result y.result c.loop-b-test.true (k.between l).0 (k.between l).1 n.ensures.0 n.ensures.2 k.filled
          (lane_passes q a.flags a.top h.b _ y.result c.between-x.ensures y.ensures);
    }

pub returns : goal.returns
returns c =
    let a = c.args in
    let h = c.loop-b in
    let q = answer (program_in a.rules.rows.now a.pairs.now a.flags) in
    (omega arith, filled_all q a.flags a.top h.marks h.b (omega arith) h.invariant.filled)
