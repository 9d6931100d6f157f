-- Rows that are missed: those whose degree is not 1. No definition of a best set rests on these: they say which sets a preferred set can beat.
use Rattle.std.specs.Prelude.{Bool, not, List, ℕ, eqb}
use Rattle.lpod.specs.Lists.{every}
use Rattle.lpod.specs.Rule.{Rule}
use Rattle.lpod.specs.Degree.{degree}

-- s misses r
unfoldable pub misses : ℕ → Rule → Bool
misses s r = not (eqb (degree s r) 1)

-- s misses no rule
unfoldable pub all_first : List Rule → ℕ → Bool
all_first P s = every (λ r. not (misses s r)) P
