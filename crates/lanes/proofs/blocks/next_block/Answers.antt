-- `blocks::next_block`: the carry finds the next block between. Assumes nothing.
use native.Mathlib.Omega.{arith}
use lib.Bits.{and_le_r}
use Rattle.lanes.proofs.NextBlock.{shut_below, none_found, next_found}
use Rattle.lanes.proofs.blocks.next_block.Goals as goal

pub overflow_sub-shut : goal.overflow_sub-shut
overflow_sub-shut c = and_le_r c.args.high 1023

pub overflow_add-x : goal.overflow_add-x
overflow_add-x c =
    let a = c.args in
    let k = shut_below a.b a.low a.high c.requires.0 c.requires.1 c.requires.2 in
    omega arith

pub returns-then-x-gt1023 : goal.returns-then-x-gt1023
returns-then-x-gt1023 c =
    let a = c.args in
    none_found a.b a.low a.high c.requires.0 c.requires.1 c.requires.2 c.if-x-gt1023.true

pub returns : goal.returns
returns c =
    let a = c.args in
    next_found a.b a.low a.high c.requires.0 c.requires.1 c.requires.2 (let l = c.if-x-gt1023.false in omega arith)
