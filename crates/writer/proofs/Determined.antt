-- For the one public call of writer: any two answers that its statement allows are equal, and so is the lent memory afterwards. Assumes nothing.
use Rattle.std.specs.Prelude.{Result}
use mathlib.Core.Path.{◌≡◌}
use mathlib.Core.List.{List}
use Prim.Native.Nat.{ℕ}
use Rattle.page.specs.declared.refusal.Refusal.{Refusal}
use Rattle.page.proofs.Refusing.{one_answered}
use Rattle.engine.proofs.Determined.{one_answer}
use Rattle.writer.specs.Content.{Content}
use Rattle.writer.specs.Writes.{WriteSays}

pub write : (c : Content) (out : List ℕ) (x y : Result ℕ Refusal) (after later : List ℕ) → WriteSays c out x after → WriteSays c out y later → (x ≡ y) × (after ≡ later)
write c out x y after later p q = (one_answered 0 x y (one_answer p.0 q.0), one_answer p.1 q.1)
