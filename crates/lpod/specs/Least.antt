-- The least set closed under definite rules: computed by rounds, and in the papers' words.
use Rattle.std.specs.Prelude.{Bool, ◌||◌, not, cond, ℕ, zero, suc, T, length}
use mathlib.Core.List.{List, [], ◌∷◌, Memᴰ}
use Rattle.atoms.specs.Atoms.{has, insert, Inside}
use Rattle.lpod.specs.Lists.{every}
use Rattle.lpod.specs.Satisfied.{all_in}
use Rattle.lpod.specs.Reduct.{Definite}

-- s is closed under D: a rule whose body is in s has its atom in s
unfoldable pub closed : List Definite → ℕ → Bool
closed D s = every (λ d. not (all_in d.body s) || has s d.atom) D

-- one round: all rules whose body holds in s fire together, and their atoms are added to t
unfoldable pub fire : List Definite → ℕ → ℕ → ℕ
fire [] s t = t
fire (d ∷ D) s t = fire D s (cond (all_in d.body s) (insert t d.atom) t)

unfoldable pub rounds : ℕ → List Definite → ℕ → ℕ
rounds zero D s = s
rounds (suc n) D s = rounds n D (fire D s s)

-- from the empty set. A round that adds something brings in the atom of one more rule, so as many rounds as rules are enough
unfoldable pub least : List Definite → ℕ
least D = rounds (length D) D 0

-- the same as it is said: closed, and inside every closed set
abbrev pub Closed : List Definite → ℕ → Type 0
Closed D s = (d : Definite) → Memᴰ d D → T (all_in d.body s) → T (has s d.atom)

pub record IsLeast (D : List Definite) (s : ℕ) : Type 0 where
  pub itself : Closed D s
  pub smallest : (c : ℕ) → Closed D c → Inside s c
