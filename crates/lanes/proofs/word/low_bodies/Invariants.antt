-- `word::low_bodies` goes through the rows in block 0, whose sets are the numbers of the lanes. Assumes nothing.
use Prim.Native.Nat.{ℕ, ◌<◌}
use mathlib.Core.Path.{◌≡◌}
use lib.ListN.{length, get_or}
use Rattle.lanes.specs.Lanes.{LowBody}
use Rattle.lanes.proofs.word.low_bodies.Given as goal

abbrev pub invariant-loop-n : goal.invariant-loop-n
invariant-loop-n l =
    record {
      long : length l.lows ≡ length l.initial.lows;
      made : (i : ℕ) → i < l.n → LowBody (get_or l.rows i 0) (get_or l.lows i 0);
    }
