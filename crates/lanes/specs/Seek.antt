-- Searches among the sets, which are the numbers of 16 bits: the least from a place on that passes a test, and all of them.
use Rattle.std.specs.Prelude.{Bool, cond, List, ℕ, zero, suc, ◌+◌, ◌-◌, Option, Some, None}
use Rattle.lpod.specs.Lists.{keep, numbers}

-- a set, or 65,536, which is none
abbrev pub number_of : Option ℕ → ℕ
number_of None = 65536
number_of (Some s) = s

module _ (q : ℕ → Bool) where
  -- the least of n numbers from i on that passes; i + n where none does
  unfoldable pub seek : ℕ → ℕ → ℕ
  seek i zero = i
  seek i (suc n) = cond (q i) i (seek (i + 1) n)

  -- the least set from i on that passes; 65,536, which is no set, where none does
  unfoldable pub next_from : ℕ → ℕ
  next_from i = seek i (65536 - i)

  -- every set from i on that passes, rising
  unfoldable pub all_from : ℕ → List ℕ
  all_from i = keep q (numbers i (65536 - i))
