-- `put_rows` stores row after row. Assumes nothing.
use Prim.Native.Nat.{◌+◌, ◌*◌}
use lib.ListN.{drop}
use Rattle.writer.specs.Content.{four_bytes}
use Rattle.writer.proofs.Bytes.{Left, padded}
use Rattle.writer.proofs.put_rows.Given as goal

abbrev pub invariant-loop-i : goal.invariant-loop-i
invariant-loop-i l = Left (four_bytes l.fn.rows) 18 l.initial.out l.out (18 + 4 * l.i) (padded (drop l.i l.counts))
