-- `put_header` stores number after number. Assumes nothing.
use Prim.Native.Nat.{◌*◌}
use lib.ListN.{drop}
use Rattle.writer.specs.Content.{two_bytes}
use Rattle.writer.proofs.Bytes.{Left}
use Rattle.writer.proofs.put_header.Given as goal

abbrev pub invariant-loop-i : goal.invariant-loop-i
invariant-loop-i l = Left (two_bytes l.fn.numbers) 0 l.initial.out l.out (2 * l.i) (two_bytes (drop l.i l.n-items))
