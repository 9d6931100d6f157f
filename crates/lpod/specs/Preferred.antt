-- Which of two sets is preferred. 000 Definition 6; 001, end of section 2.2, item 2
use Rattle.std.specs.Prelude.{Bool, ◌&&◌, ◌||◌, not, cond, List, [], ◌∷◌, ℕ, ◌-◌, max, eqb, ℤ, pos, negsuc, length}
use Rattle.lpod.specs.Lists.{every, some, numbers}
use Rattle.lpod.specs.Rule.{Rule, Program, rules}
use Rattle.lpod.specs.Degree.{degree}

-- `at_least k M N` compares two sets at k. M comes before N where at some k from 1 to n it is strictly more,
-- and at each smaller one the two are equal
module _ (at_least : ℕ → ℕ → ℕ → Bool) where
  unfoldable pub equal_at : ℕ → ℕ → ℕ → Bool
  equal_at k M N = at_least k M N && at_least k N M

  unfoldable pub more_at : ℕ → ℕ → ℕ → Bool
  more_at k M N = at_least k M N && not (at_least k N M)

  unfoldable pub first_more : ℕ → ℕ → ℕ → Bool
  first_more n M N = some (λ k. more_at k M N && every (λ j. equal_at j M N) (numbers 1 (k - 1))) (numbers 1 n)

-- the rules of degree k in N are a part of those in M
unfoldable pub within : List Rule → ℕ → ℕ → ℕ → Bool
within P k M N = every (λ r. not (eqb (degree N r) k) || eqb (degree M r) k) P

-- no degree is above the longest head
unfoldable pub longest : List Rule → ℕ
longest [] = 1
longest (r ∷ P) = max (length r.head) (longest P)

-- M is preferred to N: for some k the rules of degree k in N are a strict part of those in M, and for each smaller degree
-- the two collections are equal
unfoldable pub preferred : Program → ℕ → ℕ → Bool
preferred p M N = first_more (within (rules p)) (longest (rules p)) M N

-- +1 where the first is preferred, −1 where the second is, else 0
unfoldable pub compare : Program → ℕ → ℕ → ℤ
compare p M N = cond (preferred p M N) (pos 1) (cond (preferred p N M) (negsuc 0) (pos 0))
