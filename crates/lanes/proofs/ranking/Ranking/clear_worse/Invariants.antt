-- `Ranking::clear_worse` goes from block to block. What is kept: only sets to which m is preferred have lost their marks, and block c lies between low
-- and high where it is one. Assumes nothing.
use Prim.Native.Nat.{◌-◌, ◌≤◌, ◌<◌}
use lib.Dec.{T}
use Rattle.atoms.specs.Atoms.{inside}
use Rattle.lanes.specs.Left.{Cleared, beats}
use Rattle.lanes.proofs.ranking.Ranking.clear_worse.Given as goal

abbrev pub invariant-loop-c : goal.invariant-loop-c
invariant-loop-c l =
    (l.c ≤ 1024) × (l.c < 1024 → T (inside l.self.span.low l.c) × T (inside l.c l.self.span.high)) × Cleared (beats l.self) l.m l.initial.marks l.marks

abbrev pub decreases-loop-c : goal.decreases-loop-c
decreases-loop-c l = 1024 - l.c
