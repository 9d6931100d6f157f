-- `word::raise` goes from the lowest atom up. Assumes nothing.
use Prim.Native.Nat.{ℕ, ◌<◌}
use mathlib.Core.Path.{◌≡◌}
use mathlib.Core.Bool.{◌||◌}
use lib.Dec.{eqb}
use lib.ListN.{length, get_or}
use Rattle.atoms.specs.Atoms.{has}
use Rattle.lpod.specs.Lists.{some}
use Rattle.words.specs.Coded.{atoms_in}
use Rattle.lanes.proofs.word.raise.Given as goal

-- the atoms to come, over the words so far, are all that are raised over the words at the start
abbrev pub invariant-loop-a : goal.invariant-loop-a
invariant-loop-a l =
    record {
      long : length l.w ≡ 16;
      raised : (a j : ℕ) → j < 64 → (some (eqb a) (atoms_in l.raised) || has (get_or l.initial.w a 0) j) ≡ (some (eqb a) (atoms_in l.a-iterator.left) || has (get_or l.w a 0) j);
    }
