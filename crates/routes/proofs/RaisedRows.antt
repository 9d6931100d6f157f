-- The rows of the raised atoms in a test of all rows: to satisfy them is to hold the flags. Assumes nothing.
use mathlib.Core.Path.{◌≡◌, sym, ap, ◌∙◌, subst}
use mathlib.Core.Bool.{Bool, ◌&&◌}
use mathlib.Core.List.{List}
use Prim.Native.Nat.{ℕ, ◌^◌, ◌<◌}
use lib.Dec.{T}
use Rattle.atoms.specs.Atoms.{has, inside}
use Rattle.atoms.proofs.Truth.{same_yes}
use Rattle.atoms.proofs.Bits.{inside_test, test_inside}
use Rattle.lpod.specs.Lists.{every}
use Rattle.lpod.specs.Rule.{Rule, fact, raised}
use Rattle.lpod.specs.Satisfied.{satisfies, satisfies_all}
use Rattle.lpod.proofs.Lists.{every_at, every_made, every_append}
use Rattle.lpod.proofs.Between.{raised_row, row_raised, fact_satisfied}
use Rattle.words.specs.Coded.{rules_in, rules_with}

-- a test of rows that a raised atom's row passes just where the set g holds the atom
pub raised_every : (q : Rule → Bool) (f g : ℕ) → f < 2 ^ 16 → ((a : ℕ) → q (fact a) ≡ has g a) → every q (raised f) ≡ inside f g
raised_every q f g w h =
    same_yes (every q (raised f)) (inside f g)
    (λ t. inside_test f g (λ a u. subst T (h a) (every_at q (raised f) t (fact a) (raised_row f a w u))))
    (λ t. every_made q (raised f) (λ r m. let x = row_raised f r m in subst (λ (r : Rule). T (q r)) (sym x.1.0) (subst T (sym (h x.0)) (test_inside f g t x.0 x.1.1))))

pub satisfied_flags : (rows : List ℕ) (flags s : ℕ) → flags < 2 ^ 16
    → satisfies_all s (rules_with rows flags) ≡ (satisfies_all s (rules_in rows) && inside flags s)
unfolding satisfies_all rules_with
satisfied_flags rows flags s w =
    every_append (satisfies s) (rules_in rows) (raised flags)
    ∙ ap (λ (b : Bool). every (satisfies s) (rules_in rows) && b) (raised_every (satisfies s) flags s w (fact_satisfied s))
