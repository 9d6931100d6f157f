-- `marks::Marks::next_after` looks at the rest of the word of m, and then at the blocks after it. Assumes nothing.
use mathlib.Core.Path.{sym, ◌∙◌}
use Prim.Native.Nat.{◌+◌, ◌/◌, ◌^◌, ◌<◌}
use native.Mathlib.Omega.{arith}
use Rattle.std.proofs.Common.{rules}
use lib.ListN.{get_or}
use Rattle.lanes.proofs.Marked.{above_none, above_below, above_first, next_on_block}
use Rattle.lanes.proofs.marks.Marks.next_after.Goals as goal

pub overflow_add-result-then-x-ne0 : goal.overflow_add-result-then-x-ne0
overflow_add-result-then-x-ne0 c =
    let a = c.args in
    let small : get_or a.self.words.now (a.m / 64) 0 < 2 ^ 64 = search rules in
    let h = above_below a.self.words.now a.m small c.if-x-ne0.true in
    omega (arith, h)

pub returns-then-x-ne0 : goal.returns-then-x-ne0
returns-then-x-ne0 c =
    let a = c.args in
    sym (above_first a.self.words.now a.m (omega arith) c.if-x-ne0.true (omega arith))

pub returns : goal.returns
returns c =
    let a = c.args in
    let n = c.next in
    c.from_block.ensures
    ∙ sym (next_on_block a.self.words.now a.self.span.low a.self.span.high c.args.self.between (a.m + 1) (a.m / 64) n.result (omega arith) (above_none a.self.words.now a.m c.if-x-ne0.false)
    n.ensures.0 n.ensures.1 n.ensures.2)
