-- `answer::no_pair` takes one pair after the other. Assumes nothing.
use Prim.Native.Nat.{ℕ, ◌<◌}
use mathlib.Core.Path.{◌≡◌}
use mathlib.Core.Bool.{◌&&◌}
use mathlib.Core.List.{map}
use lib.ListN.{drop}
use Rattle.atoms.specs.Atoms.{has}
use Rattle.lpod.specs.Satisfied.{no_pair}
use Rattle.words.specs.Coded.{pair_in, pairs_in}
use Rattle.lanes.specs.Lanes.{column}
use Rattle.lanes.proofs.answer.no_pair.Given as goal

abbrev pub invariant-loop-pair : goal.invariant-loop-pair
invariant-loop-pair l = (j : ℕ) → j < 64 → (has l.x j && no_pair (pairs_in l.pairs) (column l.w j)) ≡ (has l.ok j && no_pair (map pair_in (drop l.pair-index l.pairs)) (column l.w j))
