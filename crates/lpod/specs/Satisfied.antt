-- When a set satisfies a row. 000 Definition 2; 001 section 2.2
use Rattle.std.specs.Prelude.{Bool, ◌&&◌, ◌||◌, not, List, ℕ}
use Rattle.atoms.specs.Atoms.{has}
use Rattle.lpod.specs.Lists.{every, some}
use Rattle.lpod.specs.Rule.{Rule, Pair}

-- every atom, some atom, no atom of the list is in s
unfoldable pub all_in : List ℕ → ℕ → Bool
all_in l s = every (has s) l

unfoldable pub some_in : List ℕ → ℕ → Bool
some_in l s = some (has s) l

unfoldable pub none_in : List ℕ → ℕ → Bool
none_in l s = not (some_in l s)

-- the body holds in s: all positive atoms are in s and no negative atom is
unfoldable pub body_holds : Rule → ℕ → Bool
body_holds r s = all_in r.pos s && none_in r.neg s

-- s satisfies r: where the body holds, some head atom is in s. A row without head is satisfied where its body does not hold
unfoldable pub satisfies : ℕ → Rule → Bool
satisfies s r = not (body_holds r s) || some_in r.head s

unfoldable pub satisfies_all : ℕ → List Rule → Bool
satisfies_all s P = every (satisfies s) P

-- s holds both atoms of no pair: it is consistent. 000, before Definition 2
unfoldable pub no_pair : List Pair → ℕ → Bool
no_pair Q s = every (λ q. not (has s q.one && has s q.other)) Q
