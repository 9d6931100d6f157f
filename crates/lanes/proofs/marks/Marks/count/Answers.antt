-- `marks::Marks::count` goes from block to block. What is kept: the sets counted, with those from block b on, are all, and block b lies between low and
-- high where it is one. Past the last word no set is marked. Assumes nothing.
use mathlib.Core.Path.{ap}
use native.Mathlib.Omega.{arith}
use lib.Count.{ones-le}
use lib.ListN.{length, get_or}
use Rattle.lanes.specs.Marks.{marked}
use Rattle.atoms.proofs.Bits.{inside_test}
use Rattle.lanes.proofs.Seek.{all_length}
use Rattle.lanes.proofs.BlockSets.{all_low, many_block, all_none}
use Rattle.lanes.proofs.marks.Marks.count.Goals as goal

pub loop-b-init : goal.loop-b-init
loop-b-init c =
    let a = c.args in (
      omega arith,
      λ l. (inside_test a.self.span.low a.self.span.low (λ i t. t), c.args.self.span.order),
      omega (arith, ap length (all_low a.self.words.now a.self.span.low a.self.span.high c.args.self.between (omega arith))),
    )

pub overflow_add-n : goal.overflow_add-n
overflow_add-n c =
    let marks = c.args.self.words.now in
    let b = c.loop-b.b in
    omega (arith, all_length (marked marks) 0, c.loop-b.invariant.2, ones-le 64 (get_or marks b 0) (omega (arith, c.type_inv.words b)))

pub loop-b-preserved : goal.loop-b-preserved
loop-b-preserved c =
    let h = c.loop-b in
    let n = c.next-b in (
      n.ensures.1,
      n.ensures.3,
      omega (
        arith,
        h.invariant.2,
        many_block c.args.self.words.now c.args.self.span.low c.args.self.span.high c.args.self.between h.b n.result n.ensures.0 n.ensures.1 n.ensures.2
            (omega (arith, c.type_inv.words h.b)),
      ),
    )

pub returns : goal.returns
returns c =
    let h = c.loop-b in
    omega (arith, h.invariant.2, ap length (all_none c.args.self.words.now h.b c.loop-b-test.false h.invariant.0))
