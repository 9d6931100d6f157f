-- Here-and-there, told by the tests that code makes: a head by its first atom in `there`, the rows of the raised atoms by the flags held in both.
-- Assumes nothing.
use Rattle.std.specs.Prelude.{MatchOption, Some}
use Rattle.std.specs.List.{find}
use mathlib.Core.Path.{◌≡◌, refl, sym, ap, ◌∙◌, subst}
use mathlib.Core.Bool.{Bool, true, false, ◌&&◌, ◌||◌, not, cond}
use mathlib.Core.List.{List, [], ◌∷◌}
use Prim.Native.Nat.{ℕ, ◌^◌, ◌<◌}
use native.Mathlib.Omega.{arith}
use lib.Dec.{T as Yes}
use Rattle.atoms.specs.Atoms.{has, inside, common}
use Rattle.atoms.proofs.Truth.{yes_true, no_false}
use Rattle.atoms.proofs.Bits.{has_and}
use Rattle.lpod.specs.Lists.{every, some, below}
use Rattle.lpod.specs.Rule.{fact, raised}
use Rattle.lpod.specs.Satisfied.{all_in, some_in, none_in, body_holds, satisfies}
use Rattle.lpod.specs.HereThere.{head_holds, row_holds, model, no_smaller}
use Rattle.lpod.proofs.Lists.{every_at, every_made, every_append, numbers_in, in_numbers}
use Rattle.words.specs.Coded.{rules_in, rules_with}
use Rattle.routes.proofs.RaisedRows.{raised_every}

-- a head by its first atom in I
pub by_first : (cs : List ℕ) (H I : ℕ) (r : Bool) → MatchOption (find (has I) cs) (r ≡ false) (λ a. r ≡ has H a) → r ≡ head_holds cs H I
unfolding head_holds
by_first [] H I r h = h
by_first (c ∷ cs) H I r h = go (has I c) h (by_first cs H I r)
  where
    go : (t : Bool) → MatchOption (cond t (Some c) (find (has I) cs)) (r ≡ false) (λ a. r ≡ has H a)
        → (MatchOption (find (has I) cs) (r ≡ false) (λ a. r ≡ has H a) → r ≡ head_holds cs H I) → r ≡ cond t (has H c) (head_holds cs H I)
    go true h ih = h
    go false h ih = ih h

-- ---- the rows of the raised atoms
fact_holds : (H I a : ℕ) → row_holds H I (fact a) ≡ has (common H I) a
unfolding row_holds satisfies body_holds all_in none_in some_in some every head_holds fact
fact_holds H I a = go (has H a) (has I a) ∙ sym (has_and H I a)
  where
    go : (h i : Bool) → ((i || false) && cond i h false) ≡ (h && i)
    go true true = refl
    go true false = refl
    go false true = refl
    go false false = refl

pub model_flags : (rows : List ℕ) (flags H I : ℕ) → flags < 2 ^ 16
    → model (rules_with rows flags) H I ≡ (model (rules_in rows) H I && inside flags (common H I))
unfolding model rules_with
model_flags rows flags H I w =
    every_append (row_holds H I) (rules_in rows) (raised flags)
    ∙ ap (λ (b : Bool). every (row_holds H I) (rules_in rows) && b) (raised_every (row_holds H I) flags (common H I) w (fact_holds H I))

-- ---- the smaller sets
pub none_found : (rows : List ℕ) (flags T : ℕ) (b : Bool) → (b ≡ false → (H : ℕ) → H < T → (inside H T && model (rules_with rows flags) H T) ≡ false)
    → (b ≡ true → (H : ℕ) × (H < T) × ((inside H T && model (rules_with rows flags) H T) ≡ true)) → not b ≡ no_smaller (rules_with rows flags) T
unfolding no_smaller
none_found rows flags T true t f =
    let h = f refl in
    sym (no_false (every (λ H. not (inside H T && model (rules_with rows flags) H T)) (below T))
    (λ u. subst (λ (b : Bool). Yes (not b)) h.2 (every_at _ (below T) u h.0 (numbers_in 0 T h.0 (omega arith) (omega arith)))))
none_found rows flags T false t f =
    sym (yes_true (every (λ H. not (inside H T && model (rules_with rows flags) H T)) (below T))
    (every_made _ (below T) (λ H m. let l = in_numbers 0 T H m in subst (λ (b : Bool). Yes (not b)) (sym (t refl H (omega arith))) tt)))
