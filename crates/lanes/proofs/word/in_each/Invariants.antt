-- `word::in_each` goes from the lowest atom up. Assumes nothing.
use Prim.Native.Nat.{ℕ, ◌<◌}
use mathlib.Core.Path.{◌≡◌}
use mathlib.Core.Bool.{◌&&◌}
use Rattle.atoms.specs.Atoms.{has}
use Rattle.words.specs.Coded.{atoms_in}
use Rattle.lanes.specs.Lanes.{column}
use Rattle.lanes.proofs.Bodies.{Each}
use Rattle.lanes.proofs.word.in_each.Given as goal

-- the lanes so far that lie in the word of each atom to come
abbrev pub invariant-loop-a : goal.invariant-loop-a
invariant-loop-a l = (j : ℕ) → j < 64 → (has l.x j && Each (atoms_in l.these) (has l.turned j) (column l.w j)) ≡ (has l.y j && Each (atoms_in l.a-iterator.left) (has l.turned j) (column l.w j))
