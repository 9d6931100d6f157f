-- What a call that stores leaves in a lent slice.
use Rattle.std.specs.Prelude.{cond, List, ◌++◌, ℕ, eqb, length, drop}

-- these entries from the start of the slice; every later entry keeps its content
unfoldable pub over : {A : Type 0} → List A → List A → List A
over xs out = xs ++ drop (length xs) out

-- by a call with number n; where n refuses, the slice as it was
unfoldable pub stored : ℕ → List ℕ → List ℕ → List ℕ
stored n xs out = cond (eqb n 0) (over xs out) out
