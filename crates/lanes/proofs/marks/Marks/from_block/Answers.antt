-- `marks::Marks::from_block` goes from block to block. What is kept: the least marked set from block b on is the least from block c on, and block c lies
-- between low and high where it is one. Past the last word no set is marked. Assumes nothing.
use mathlib.Core.Path.{sym, ◌∙◌}
use Prim.Native.Nat.{◌*◌}
use native.Mathlib.Omega.{arith}
use Rattle.lanes.proofs.Seek.{next_none}
use Rattle.lanes.proofs.Marked.{word_none, word_first, next_on_block, none_past}
use Rattle.lanes.proofs.marks.Marks.from_block.Goals as goal

pub returns-then-x-ne0 : goal.returns-then-x-ne0
returns-then-x-ne0 c =
    let h = c.loop-c in
    sym (h.invariant.2 ∙ word_first c.args.self.words.now h.c (omega arith) c.if-x-ne0.true (omega arith))

pub loop-c-preserved : goal.loop-c-preserved
loop-c-preserved c =
    let h = c.loop-c in
    let n = c.next-c in (
      n.ensures.1,
      n.ensures.3,
      h.invariant.2 ∙ next_on_block c.args.self.words.now c.args.self.span.low c.args.self.span.high c.args.self.between (64 * h.c) h.c n.result (omega arith)
          (word_none c.args.self.words.now h.c c.if-x-ne0.false) n.ensures.0 n.ensures.1 n.ensures.2,
    )

pub returns : goal.returns
returns c =
    let h = c.loop-c in
    sym (h.invariant.2 ∙ next_none _ (64 * h.c) (omega arith) (none_past c.args.self.words.now h.c c.loop-c-test.false))
