-- `rank::exact`: from degree 2 on the head atoms before the last are passed over, one after the other. What is kept: the row has the
-- degree where the lane is left and the first of the head atoms that are left is at that place. Assumes nothing.
use mathlib.Core.Path.{◌≡◌}
use mathlib.Core.Bool.{◌&&◌}
use Prim.Native.Nat.{ℕ, ◌+◌, ◌*◌, ◌-◌, ◌<◌}
use lib.Dec.{eqb}
use Rattle.atoms.specs.Atoms.{has}
use Rattle.lpod.specs.Degree.{place, degree}
use Rattle.words.specs.Coded.{rule_in, digits}
use Rattle.lanes.proofs.rank.exact.Given as goal

abbrev pub invariant-loop-p : goal.invariant-loop-p
invariant-loop-p l =
    (j : ℕ) → j < 64 → eqb (degree (64 * l.block.number + j) (rule_in l.word)) l.k ≡ (has l.t j && eqb (place l._p (digits (l.n + 1 - l._p) l.d) (64 * l.block.number + j)) l.k)
