-- `put` copies the part into its place. Assumes nothing.
use native.Mathlib.Omega.{arith}
use Rattle.writer.proofs.Bytes.{copied}
use Rattle.writer.proofs.put.Goals as goal

pub returns : goal.returns
returns c = let a = c.args in rw c.copy_from_slice.ensures.after (copied a.out.now a.part.now a.at _ (omega arith) c.requires)
