-- Answer sets. 000 Definition 4; 001 Theorem 3. Pairs come from 000 alone
use Rattle.std.specs.Prelude.{Bool, ◌&&◌, List, ℕ, ◌^◌, eqb}
use Rattle.lpod.specs.Lists.{keep, below}
use Rattle.lpod.specs.Rule.{Program, rules}
use Rattle.lpod.specs.Satisfied.{satisfies_all, no_pair}
use Rattle.lpod.specs.Reduct.{reduct}
use Rattle.lpod.specs.Least.{least}

-- s holds no pair, satisfies every rule, and is the least set closed under its reduct
unfoldable pub answer : Program → ℕ → Bool
answer p s = no_pair p.pairs s && (satisfies_all s (rules p) && eqb (least (reduct (rules p) s)) s)

-- all of them among the sets of the page's atoms, rising
unfoldable pub answer_sets : Program → List ℕ
answer_sets p = keep (answer p) (below (2 ^ p.atoms))
