-- How long a chain of reasons leads to a set: the rounds that add something, counted. The rounds are those of Least.antt.
use Rattle.std.specs.Prelude.{Bool, not, List, ℕ, suc, eqb, length}
use Rattle.lpod.specs.Lists.{keep, below}
use Rattle.lpod.specs.Rule.{Program, rules}
use Rattle.lpod.specs.Reduct.{Definite, reduct}
use Rattle.lpod.specs.Least.{rounds}

-- round n, counted from 0, adds something
unfoldable pub adds : List Definite → ℕ → Bool
adds D n = not (eqb (rounds (suc n) D 0) (rounds n D 0))

-- how many rounds do. After as many as there are rules none does, as for `least`
unfoldable pub chain : List Definite → ℕ
chain D = length (keep (adds D) (below (length D)))

-- the chain to s, an answer set or not: by its own reduct, the rules of raised atoms included
unfoldable pub chain_to : Program → ℕ → ℕ
chain_to p s = chain (reduct (rules p) s)
