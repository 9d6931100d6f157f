-- `answer::held`: past the last word there is no atom. Assumes nothing.
use mathlib.Core.Path.{sym, ap, ◌∙◌}
use Prim.Native.Nat.{ℕ}
use native.Mathlib.Omega.{arith}
use lib.ListN.{get_or-eq_default}
use Rattle.atoms.specs.Atoms.{has}
use Rattle.lanes.proofs.Words.{has_column}
use Rattle.lanes.proofs.answer.held.Goals as goal

pub returns-then-a-lt16 : goal.returns-then-a-lt16
returns-then-a-lt16 c = λ j l. ap (λ (x : ℕ). has x j) c.at.ensures ∙ sym (has_column _ j _)

pub returns : goal.returns
returns c =
    λ j l. ap (λ (x : ℕ). has x j) (sym (get_or-eq_default c.args.w.now 0 (omega arith))) ∙ sym (has_column _ j _)
