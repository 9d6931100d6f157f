-- `answer::same` goes through both word by word. Assumes nothing.
use Prim.Native.Nat.{ℕ, ◌<◌}
use mathlib.Core.Path.{◌≡◌}
use mathlib.Core.Bool.{◌&&◌}
use Rattle.atoms.specs.Atoms.{has}
use Rattle.lanes.proofs.Columns.{same_from}
use Rattle.lanes.proofs.answer.same.Given as goal

abbrev pub invariant-loop-k : goal.invariant-loop-k
invariant-loop-k l = (j : ℕ) → j < 64 → same_from 0 l.v l.w j ≡ (has l.acc j && same_from l.k l.v l.w j)
