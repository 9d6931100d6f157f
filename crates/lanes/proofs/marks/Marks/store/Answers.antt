-- `marks::Marks::store` goes from block to block. What is kept: the sets from block b on, stored from k on, leave what all of them do from the start on;
-- there is room for them; and block b lies between low and high where it is one. Past the last word no set is marked. Assumes nothing.
use mathlib.Core.Path.{refl, sym, ap, ◌∙◌}
use Prim.Native.Nat.{◌*◌, ◌<◌}
use native.Mathlib.Omega.{arith}
use lib.ListN.{length, length-append}
use lib.Seq.{sets, length-sets}
use Rattle.atoms.proofs.Bits.{inside_test}
use Rattle.lpod.specs.Lists.{keep, numbers}
use Rattle.lanes.specs.Seek.{all_from}
use Rattle.lanes.specs.Marks.{marked}
use Rattle.lanes.proofs.Seek.{all_length}
use Rattle.lanes.proofs.BlockSets.{block_le, all_low, all_block, all_none}
use Rattle.lanes.proofs.Stored.{over_sets, part_stored}
use Rattle.lanes.proofs.marks.Marks.store.Goals as goal

pub loop-b-init : goal.loop-b-init
loop-b-init c =
    let a = c.args in
    let e = all_low a.self.words.now a.self.span.low a.self.span.high c.args.self.between (omega arith) in
    (omega arith, λ l. (inside_test a.self.span.low a.self.span.low (λ i t. t), c.args.self.span.order), refl, omega (arith, ap length e), ap (sets a.out.now 0) e)

pub store_block-k-requires : goal.store_block-k-requires
store_block-k-requires c =
    let h = c.loop-b in
    let marks = c.args.self.words.now in
    let few : h.b < 1024 = omega arith in
    let le = block_le marks h.b few in
    (few, omega arith, omega (arith, h.invariant.3, all_length (marked marks) 0), omega (arith, h.invariant.2, h.invariant.3, c.requires))

pub loop-b-preserved : goal.loop-b-preserved
loop-b-preserved c =
    let e = c.store_block-k.ensures in
    let h = c.loop-b in
    let a = c.args in
    let n = c.next-b in
    let here = keep (marked a.self.words.now) (numbers (64 * h.b) 64) in
    let later = all_from (marked a.self.words.now) (64 * n.result) in
    let parts = all_block a.self.words.now a.self.span.low a.self.span.high c.args.self.between h.b n.result n.ensures.0 n.ensures.1 n.ensures.2 in (
      n.ensures.1,
      n.ensures.3,
      ap length e.0 ∙ length-sets h.out h.k here ∙ h.invariant.2,
      omega (arith, h.invariant.3, ap length parts, length-append here later, e.1),
      h.invariant.4 ∙ part_stored (all_from (marked a.self.words.now) (64 * h.b)) here later h.out _ h.k _ parts e.0 e.1,
    )

pub returns : goal.returns
returns c =
    let h = c.loop-b in
    let marks = c.args.self.words.now in
    sym (h.invariant.4 ∙ ap (sets h.out h.k) (all_none marks h.b c.loop-b-test.false h.invariant.0))
    ∙ over_sets (all_from (marked marks) 0) c.args.out.now c.requires
