-- The reading in the logic of here-and-there, for H inside T. 001 Definition 1 and operator (13)
use Rattle.std.specs.Prelude.{Bool, false, ◌&&◌, ◌||◌, not, cond, List, [], ◌∷◌, ℕ}
use Rattle.atoms.specs.Atoms.{has, inside}
use Rattle.lpod.specs.Lists.{every, below}
use Rattle.lpod.specs.Rule.{Rule, Program, rules}
use Rattle.lpod.specs.Satisfied.{all_in, none_in, satisfies, no_pair}

-- a head holds where its first atom in T is also in H; a head with no atom in T never does
unfoldable pub head_holds : List ℕ → ℕ → ℕ → Bool
head_holds [] H T = false
head_holds (c ∷ cs) H T = cond (has T c) (has H c) (head_holds cs H T)

-- the same head by the operator of 001 (13), F × G = F ∨ (¬F ∧ G): an atom holds where it is in H, its denial where it is not in T.
-- For H inside T it is the head above
unfoldable pub ordered : List ℕ → ℕ → ℕ → Bool
ordered [] H T = false
ordered (c ∷ cs) H T = has H c || (not (has T c) && ordered cs H T)

-- a row holds: T satisfies it, and (H, T) misses the body or the head holds
unfoldable pub row_holds : ℕ → ℕ → Rule → Bool
row_holds H T r = satisfies T r && (not (all_in r.pos H && none_in r.neg T) || head_holds r.head H T)

-- (H, T) is a model of the rules
unfoldable pub model : List Rule → ℕ → ℕ → Bool
model P H T = every (row_holds H T) P

-- no smaller H is a model with T. A set inside T and other than T is a smaller number
unfoldable pub no_smaller : List Rule → ℕ → Bool
no_smaller P T = every (λ H. not (inside H T && model P H T)) (below T)

-- T holds no pair, (T, T) is a model, and with no smaller H is (H, T) one
unfoldable pub here_there : Program → ℕ → Bool
here_there p T = no_pair p.pairs T && (model (rules p) T T && no_smaller (rules p) T)
