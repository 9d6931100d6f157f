-- `close::head_pass` takes the head's digits one after the other. Assumes nothing.
use Prim.Native.Nat.{ℕ, ◌-◌, ◌<◌}
use mathlib.Core.Path.{◌≡◌}
use mathlib.Core.Bool.{◌&&◌, ◌||◌}
use lib.ListN.{length}
use Rattle.atoms.specs.Atoms.{has}
use Rattle.lpod.specs.Satisfied.{none_in}
use Rattle.words.specs.Coded.{rule_in, digits}
use Rattle.lanes.specs.Lanes.{column}
use Rattle.lanes.specs.Pass.{put, adds}
use Rattle.lanes.proofs.close.head_pass.Given as goal

-- what is kept says with the digits to come what the whole head says
abbrev pub invariant-loop : goal.invariant-loop
invariant-loop l =
    record {
      long : length l.cur ≡ 16;
      none : (j : ℕ) → j < 64 → (has l.t j && none_in (rule_in l.row).head (column l.w j)) ≡ (has l.x j && none_in (digits (l.end - l.counter) l.d) (column l.w j));
      reached : (j : ℕ) → j < 64 → put (rule_in l.row).head (column l.w j) (has l.t j && has l.fire j) (column l.initial.cur j) ≡ put (digits (l.end - l.counter) l.d) (column l.w j) (has l.x j && has l.fire j) (column l.cur j);
      grows : (j : ℕ) → j < 64 → adds (rule_in l.row).head (column l.w j) (has l.t j && has l.fire j) (column l.initial.cur j) ≡ (has l.grew j || adds (digits (l.end - l.counter) l.d) (column l.w j) (has l.x j && has l.fire j) (column l.cur j));
    }
