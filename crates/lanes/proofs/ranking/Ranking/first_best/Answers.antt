-- `Ranking::first_best`: no set before the first marked one is best. Assumes nothing.
use mathlib.Core.Path.{sym, ◌∙◌}
use native.Mathlib.Nat.{le_refl}
use native.Mathlib.Omega.{arith}
use Rattle.lanes.proofs.Seek.{next_passes, next_within, next_past}
use Rattle.lanes.proofs.BestKept.{best_passes}
use Rattle.lanes.proofs.ranking.Ranking.first_best.Goals as goal

pub returns-in_err-m : goal.returns-in_err-m
returns-in_err-m c = rw c.from_residual.ensures (sym (next_within _ _ (best_passes _ _) 0 65536 c.in_err-m.ensures ∙ next_past _ 65536 (le_refl 65536)))

pub settle-requires : goal.settle-requires
settle-requires c = (c.requires, next_passes _ 0 c.in_ok-m.m c.in_ok-m.ensures (omega arith))

pub returns : goal.returns
returns c = c.settle.ensures.0 ∙ sym (next_within _ _ (best_passes _ _) 0 c.in_ok-m.m c.in_ok-m.ensures)
