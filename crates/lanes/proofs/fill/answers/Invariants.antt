-- `fill::answers` goes from block to block between. What is kept: the sets of the blocks that are done have their marks, and no other set has one.
-- Assumes nothing.
use Prim.Native.Nat.{◌-◌, ◌+◌, ◌/◌, ◌≤◌, ◌<◌}
use mathlib.Core.Path.{◌≡◌}
use lib.Dec.{T}
use lib.ListN.{length}
use Rattle.atoms.specs.Atoms.{inside}
use Rattle.lpod.specs.Answer.{answer}
use Rattle.words.specs.Coded.{program_in}
use Rattle.lanes.proofs.Filled.{FilledTo}
use Rattle.lanes.proofs.fill.answers.Given as goal

abbrev pub invariant-loop-b : goal.invariant-loop-b
invariant-loop-b l =
    record {
      long : length l.marks ≡ l.top / 64 + 1;
      small : l.top < 65536;
      most : l.b ≤ 1024;
      between : l.b < 1024 → T (inside (l.flags / 64) l.b) × T (inside l.b (l.top / 64));
      filled : FilledTo (answer (program_in l.rules.rows.now l.pairs l.flags)) l.flags l.top l.b l.marks;
    }

abbrev pub decreases-loop-b : goal.decreases-loop-b
decreases-loop-b l = 1024 - l.b
