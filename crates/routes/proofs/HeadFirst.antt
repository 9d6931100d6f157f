-- The first head atom in a set: by its place, and as the atom that the row's rule of the reduct gives. By induction on the head. Assumes nothing.
use Rattle.std.specs.Prelude.{Option, None, Some, MatchOption, SomeIff, IsSomeAnd, option_to_list}
use Rattle.std.specs.List.{find}
use mathlib.Core.Path.{◌≡◌, refl, sym, ap, ◌∙◌, subst}
use mathlib.Core.Bool.{Bool, true, false, not, cond}
use mathlib.Core.List.{List, [], ◌∷◌}
use Prim.Native.Nat.{ℕ, ◌+◌, ◌-◌, ◌^◌, ◌≤◌, ◌<◌}
use native.Mathlib.Omega.{arith}
use lib.Dec.{T}
use lib.ListN.{get_or}
use Rattle.atoms.specs.Atoms.{has, with_atom}
use Rattle.atoms.proofs.Truth.{true_yes}
use Rattle.atoms.proofs.Bits.{has_below, with_insert}
use Rattle.lpod.specs.Rule.{Rule}
use Rattle.lpod.specs.Satisfied.{all_in, some_in, none_in}
use Rattle.lpod.specs.Degree.{place}
use Rattle.lpod.specs.Reduct.{Definite, reduct_row}
use Rattle.lpod.specs.Least.{fire}
use Rattle.lpod.proofs.FirstAtom.{first_in, ifs, row_first}
use Rattle.lpod.proofs.Firing.{no_place, at_place}

found : (cs : List ℕ) (I : ℕ) → first_in cs I ≡ option_to_list (find (has I) cs)
unfolding first_in
found [] I = refl
found (c ∷ cs) I = go (has I c) (found cs I)
  where
    go : (t : Bool) → first_in cs I ≡ option_to_list (find (has I) cs) → cond t (c ∷ []) (first_in cs I) ≡ option_to_list (cond t (Some c) (find (has I) cs))
    go true e = refl
    go false e = e

none_listed : (o : Option ℕ) → option_to_list o ≡ [] → o ≡ None
none_listed None e = refl
none_listed (Some a) e = cc

some_listed : (o : Option ℕ) (a : ℕ) → option_to_list o ≡ a ∷ [] → o ≡ Some a
some_listed None a e = cc
some_listed (Some b) a e = cc

-- ---- by its place
module _ (cs : List ℕ) (I : ℕ) where
  find_none : place 1 cs I ≡ 0 → find (has I) cs ≡ None
  find_none e = none_listed (find (has I) cs) (sym (found cs I) ∙ no_place 0 cs I e)

  find_at : (j : ℕ) → place 1 cs I ≡ 1 + j → find (has I) cs ≡ Some (get_or cs j 0)
  find_at j l = some_listed (find (has I) cs) (get_or cs j 0) (sym (found cs I) ∙ (at_place 0 cs I j l).0)

pub find_place : (cs : List ℕ) (I p : ℕ) → p ≡ place 1 cs I → (k : Option ℕ) → SomeIff k (1 ≤ p) (p - 1)
    → (r : Option ℕ) → MatchOption k (r ≡ None) (λ j. IsSomeAnd r (λ a. a ≡ get_or cs j 0)) → r ≡ find (has I) cs
find_place cs I p ep None ek None er = let z : p ≡ 0 = omega arith in sym (find_none cs I (sym ep ∙ z))
find_place cs I p ep None ek (Some b) er = cc
find_place cs I p ep (Some j) ek None er = absurd er
find_place cs I p ep (Some j) ek (Some b) er = let z : p ≡ 1 + j = omega arith in ap Some er ∙ sym (find_at cs I j (sym ep ∙ z))

-- ---- what it gives
find_has : (cs : List ℕ) (I a : ℕ) → find (has I) cs ≡ Some a → T (has I a)
find_has [] I a e = cc
find_has (c ∷ cs) I a e = go (has I c) refl e (find_has cs I a)
  where
    go : (t : Bool) → has I c ≡ t → cond t (Some c) (find (has I) cs) ≡ Some a → (find (has I) cs ≡ Some a → T (has I a)) → T (has I a)
    go true q e ih = let p : c ≡ a = cc in subst (λ (x : ℕ). T (has I x)) p (true_yes q)
    go false q e ih = ih e

module _ (r : Rule) (I s t : ℕ) where
  gives : fire (reduct_row r I) s t ≡ cond (some_in r.neg I) t (fire (ifs (option_to_list (find (has I) r.head)) r.pos) s t)
  unfolding none_in fire
  gives = ap (λ (D : List Definite). fire D s t) (row_first r I) ∙ rw (found r.head I) (go (some_in r.neg I))
    where
      go : (b : Bool) → fire (cond (not b) (ifs (option_to_list (find (has I) r.head)) r.pos) []) s t ≡ cond b t (fire (ifs (option_to_list (find (has I) r.head)) r.pos) s t)
      go true = refl
      go false = refl

  -- with a negative atom in the set it has no rule
  pub fire_blocked : some_in r.neg I ≡ true → t ≡ fire (reduct_row r I) s t
  fire_blocked n = sym (gives ∙ rw n)

  -- while the positive body is not in s its rule waits
  pub fire_waits : all_in r.pos s ≡ false → t ≡ fire (reduct_row r I) s t
  unfolding fire ifs
  fire_waits p = sym (gives ∙ go (some_in r.neg I) (find (has I) r.head))
    where
      go : (b : Bool) (o : Option ℕ) → cond b t (fire (ifs (option_to_list o) r.pos) s t) ≡ t
      go true o = refl
      go false None = refl
      go false (Some a) = rw p

  -- else its atom, if there is one, is added
  pub fire_first : (u : ℕ) → I < 2 ^ 16 → some_in r.neg I ≡ false → all_in r.pos s ≡ true
      → MatchOption (find (has I) r.head) (u ≡ t) (λ a. u ≡ with_atom t a) → u ≡ fire (reduct_row r I) s t
  unfolding fire ifs
  fire_first u w n p h = go (find (has I) r.head) refl h ∙ sym (gives ∙ rw n)
    where
      go : (o : Option ℕ) → find (has I) r.head ≡ o → MatchOption o (u ≡ t) (λ a. u ≡ with_atom t a) → u ≡ fire (ifs (option_to_list o) r.pos) s t
      go None e h = h
      go (Some a) e h = h ∙ with_insert t a (has_below 16 I a w (find_has r.head I a e)) ∙ rw p
