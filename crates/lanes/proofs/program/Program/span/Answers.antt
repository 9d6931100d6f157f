-- `Program::span`: the flags are a part of the top, and so are those above the lowest six. Assumes nothing.
use Prim.Native.Nat.{◌<◌}
use native.Mathlib.Omega.{arith}
use Rattle.lanes.proofs.Filled.{inside_high}
use Rattle.lanes.proofs.AllSets.{flags_top}
use Rattle.lanes.proofs.program.Program.span.Goals as goal

pub invariant_of-result : goal.invariant_of-result
invariant_of-result c =
    let p = c.args.self in
    let w : p.flags < 65536 = omega arith in
    record { order = inside_high p.flags p.top (flags_top p.rows.now p.pairs.now p.flags w p.top p.highest) }
