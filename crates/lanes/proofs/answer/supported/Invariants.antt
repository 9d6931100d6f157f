-- `answer::supported`: the passes in each lane, until each is settled. Assumes nothing.
use Prim.Native.Nat.{ℕ, ◌+◌, ◌*◌, ◌<◌}
use lib.Dec.{T}
use Rattle.atoms.specs.Atoms.{has}
use Rattle.words.specs.Coded.{rules_in}
use Rattle.lanes.specs.Lanes.{column}
use Rattle.lanes.proofs.Closure.{Come}
use Rattle.lanes.proofs.Answering.{Kept}
use Rattle.lanes.proofs.answer.supported.Given as goal

abbrev pub invariant-loop : goal.invariant-loop
invariant-loop l =
    record {
      kept : (j : ℕ) → j < 64 → Kept (rules_in l.rules.rows.now) (64 * l.block.number + j) (has l.x j) l.counter (has l.ok j);
      come : (j : ℕ) → j < 64 → T (has l.x j) → Come (rules_in l.rules.rows.now) l.flags (64 * l.block.number + j) l.counter (column l.cur j);
    }
