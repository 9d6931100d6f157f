-- `Ranking::rival_from` grades m. Where every row has degree 1 nothing is preferred to it; else it goes from block to block. What is kept: the least
-- rival from block b on is the least from block c on, only sets to which m is preferred have lost their marks, and block c lies between low and high
-- where it is one. Assumes nothing.
use mathlib.Core.Path.{◌≡◌}
use Prim.Native.Nat.{◌*◌, ◌-◌, ◌≤◌, ◌<◌}
use lib.Dec.{T}
use Rattle.atoms.specs.Atoms.{inside}
use Rattle.lanes.specs.Seek.{next_from}
use Rattle.lanes.specs.Left.{rival, Cleared, beats}
use Rattle.lanes.proofs.ranking.Ranking.rival_from.Given as goal

abbrev pub invariant-loop-c : goal.invariant-loop-c
invariant-loop-c l =
    (l.c ≤ 1024) × (l.c < 1024 → T (inside l.self.span.low l.c) × T (inside l.c l.self.span.high))
    × (next_from (rival (beats l.self) l.initial.marks l.m) (64 * l.b) ≡ next_from (rival (beats l.self) l.initial.marks l.m) (64 * l.c)) × Cleared (beats l.self) l.m l.initial.marks l.marks

abbrev pub decreases-loop-c : goal.decreases-loop-c
decreases-loop-c l = 1024 - l.c
