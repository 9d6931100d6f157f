-- The reduct after Brewka. 000 Definition 3; 001 Definition 2
use Rattle.std.specs.Prelude.{◌&&◌, cond, List, [], ◌∷◌, ◌++◌, ℕ}
use Rattle.atoms.specs.Atoms.{has}
use Rattle.lpod.specs.Lists.{gather}
use Rattle.lpod.specs.Rule.{Rule}
use Rattle.lpod.specs.Satisfied.{none_in}

-- "atom if body": a rule with one head atom and no "not"
pub record Definite : Type 0 where
  pub atom : ℕ
  pub body : List ℕ

-- "head atom i if the positive body" for each place i where atom i is in I and no earlier head atom is; `earlier` are those passed
unfoldable pub reduct_head : List ℕ → List ℕ → List ℕ → ℕ → List Definite
reduct_head earlier [] pos I = []
reduct_head earlier (c ∷ cs) pos I =
    cond (has I c && none_in earlier I) (record { atom = c; body = pos } ∷ []) [] ++ reduct_head (earlier ++ (c ∷ [])) cs pos I

-- and this only where no negative atom is in I
unfoldable pub reduct_row : Rule → ℕ → List Definite
reduct_row r I = cond (none_in r.neg I) (reduct_head [] r.head r.pos I) []

unfoldable pub reduct : List Rule → ℕ → List Definite
reduct P I = gather (λ r. reduct_row r I) P
