-- A list of atoms as a set, one atom at a time: what is gathered so far, with the atoms of the rest, is the atoms of the whole, since a union is
-- the same however it is put together. An atom is in the set exactly where it is in the list. And a list that rises is read back from its set,
-- since a set keeps no order of its own. Assumes nothing.
use mathlib.Core.Path.{◌≡◌, refl, sym, ap, ◌∙◌, subst}
use mathlib.Core.Bool.{Bool, true, false, ◌||◌, cond}
use mathlib.Core.Logic.{◌⊎◌, ⊎_elim}
use mathlib.Core.List.Memᴰ
use mathlib.Core.List.{List, [], ◌∷◌, ◌++◌, Memᴰ}
use Prim.Native.Nat.{ℕ, ◌^◌, ◌<◌}
use native.Mathlib.Omega.{arith}
use lib.Pow.{pow_pos}
use lib.Dec.{T, ltb, lt→ltb}
use lib.Bits.{bit_or, or_comm, or_zero_l, or_zero_r}
use borrow.Author.Tests.{ltb-true}
use Rattle.atoms.specs.Atoms.{has, insert, union, with_atom}
use Rattle.atoms.proofs.Truth.{yes_true}
use Rattle.atoms.proofs.Bits.{has_or, has_zero, same_atoms, in_insert, at_insert, of_insert}
use Rattle.atoms.proofs.Count.{insert_lt}
use Rattle.lpod.specs.Lists.{keep, below, Rising}
use Rattle.lpod.specs.Rule.{most_atoms, set_of}
use Rattle.lpod.proofs.Lists.{keep_in, in_keep, numbers_in, numbers_rise, keep_rises}
use Rattle.words.specs.Coded.{atoms_in, atoms_of}

or_or : (a b c : Bool) → ((a || b) || c) ≡ (a || (b || c))
or_or true b c = refl
or_or false b c = refl

pub union_assoc : (a b c : ℕ) → union (union a b) c ≡ union a (union b c)
union_assoc a b c =
    same_atoms (union (union a b) c) (union a (union b c))
    (λ i. simp has_or (or_or (has a i) (has b i) (has c i)))

-- one atom
pub with_union : (s t a : ℕ) → union (with_atom s a) t ≡ union s (with_atom t a)
unfolding with_atom
with_union s t a = go (ltb a 16)
  where
    go : (b : Bool) → union (cond b (bit_or s (2 ^ a)) s) t ≡ union s (cond b (bit_or t (2 ^ a)) t)
    go true = union_assoc s (2 ^ a) t ∙ ap (union s) (or_comm (2 ^ a) t)
    go false = refl

pub atoms_cons : (a : ℕ) (l : List ℕ) → atoms_of (a ∷ l) ≡ with_atom (atoms_of l) a
unfolding atoms_of keep with_atom set_of
atoms_cons a l = go (ltb a 16)
  where
    go : (b : Bool) → set_of (cond b (a ∷ keep (λ a. ltb a 16) l) (keep (λ a. ltb a 16) l)) ≡ cond b (bit_or (atoms_of l) (2 ^ a)) (atoms_of l)
    go true = refl
    go false = refl

pub atoms_first : (l : List ℕ) → atoms_of l ≡ union 0 (atoms_of l)
atoms_first l = sym (or_zero_l (atoms_of l))

pub atoms_step : (s t a : ℕ) (l rest : List ℕ) → l ≡ a ∷ rest → t ≡ with_atom s a → union s (atoms_of l) ≡ union t (atoms_of rest)
atoms_step s t a l rest e et = rw (e, atoms_cons, et) (sym (with_union s (atoms_of rest) a))

pub atoms_none : (s : ℕ) (l : List ℕ) → l ≡ [] → union s (atoms_of l) ≡ s
unfolding atoms_of keep set_of
atoms_none s l e = rw e (or_zero_r s)

pub atoms_append : (s : ℕ) (l m : List ℕ) → union s (atoms_of (l ++ m)) ≡ union (union s (atoms_of l)) (atoms_of m)
atoms_append s [] m = ap (λ (x : ℕ). union x (atoms_of m)) (sym (atoms_none s [] refl))
atoms_append s (a ∷ l) m =
    atoms_step s (with_atom s a) a (a ∷ l ++ m) (l ++ m) refl refl ∙ atoms_append (with_atom s a) l m
    ∙ ap (λ (x : ℕ). union x (atoms_of m)) (sym (atoms_step s (with_atom s a) a (a ∷ l) l refl refl))

-- a list of atoms below 16 is the set of all of them
pub atoms_set : (l : List ℕ) → ((a : ℕ) → Memᴰ a l → a < 16) → atoms_of l ≡ set_of l
unfolding atoms_of keep set_of
atoms_set [] h = refl
atoms_set (a ∷ l) h =
    rw (yes_true (ltb a 16) (lt→ltb a 16 (h a (Memᴰ.head refl)))) (ap (λ (s : ℕ). union s (2 ^ a)) (atoms_set l (λ b m. h b (Memᴰ.tail m))))

-- ---- which atoms are in the set
pub in_set : (l : List ℕ) (a : ℕ) → T (has (set_of l) a) → Memᴰ a l
unfolding set_of
in_set [] a t = absurd (subst T (has_zero a) t)
in_set (b ∷ l) a t = ⊎_elim (λ u. Memᴰ.tail (in_set l a u)) (λ e. Memᴰ.head e) (of_insert (set_of l) b a t)

pub set_in : (l : List ℕ) (a : ℕ) → Memᴰ a l → T (has (set_of l) a)
unfolding set_of
set_in [] a m = elim m [ ]
set_in (b ∷ l) a m =
    ⊎_elim (λ e. subst (λ (x : ℕ). T (has (insert (set_of l) b) x)) (sym e) (at_insert (set_of l) b)) (λ n. in_insert (set_of l) b a (set_in l a n)) (Memᴰ.cases_cons m)

-- ---- how large the set is
pub set_below : (n : ℕ) (l : List ℕ) → ((a : ℕ) → Memᴰ a l → a < n) → set_of l < 2 ^ n
unfolding set_of
set_below n [] h = pow_pos n
set_below n (a ∷ l) h = insert_lt n (set_of l) a (set_below n l (λ b m. h b (Memᴰ.tail m))) (h a (Memᴰ.head refl))

pub atoms_below : (l : List ℕ) → atoms_of l < 65536
unfolding atoms_of
atoms_below l =
    set_below 16 (keep (λ a. ltb a 16) l) (λ a m. ltb-true a 16 (yes_true (ltb a 16) (in_keep (λ a. ltb a 16) l a m).1))

-- ---- a rising list is read back from its set: two rising lists with the same members are the same
pub rising_same : (l m : List ℕ) → Rising l → Rising m → ((a : ℕ) → Memᴰ a l → Memᴰ a m) → ((a : ℕ) → Memᴰ a m → Memᴰ a l) → l ≡ m
rising_same [] [] r q f g = refl
rising_same [] (b ∷ m) r q f g = elim (g b (Memᴰ.head refl)) [ ]
rising_same (a ∷ l) [] r q f g = elim (f a (Memᴰ.head refl)) [ ]
rising_same (a ∷ l) (b ∷ m) r q f g =
    λ i. first i ∷ rising_same l m r.1 q.1 (λ x n. left x n (Memᴰ.cases_cons (f x (Memᴰ.tail n))))
    (λ x n. right x n (Memᴰ.cases_cons (g x (Memᴰ.tail n)))) i
  where
    -- were each first number in the other's rest, each would be below the other
    first : a ≡ b
    first =
        ⊎_elim (λ e. e)
        (λ n. ⊎_elim (λ e. sym e) (λ k. absurd (omega (arith, q.0 a n, r.0 b k))) (Memᴰ.cases_cons (g b (Memᴰ.head refl))))
        (Memᴰ.cases_cons (f a (Memᴰ.head refl)))

    left : (x : ℕ) → Memᴰ x l → (x ≡ b) ⊎ Memᴰ x m → Memᴰ x m
    left x n = ⊎_elim (λ e. absurd (omega (arith, first, r.0 x n))) (λ k. k)

    right : (x : ℕ) → Memᴰ x m → (x ≡ a) ⊎ Memᴰ x l → Memᴰ x l
    right x n = ⊎_elim (λ e. absurd (omega (arith, first, q.0 x n))) (λ k. k)

pub atoms_back : (l : List ℕ) → ((a : ℕ) → Memᴰ a l → a < 16) → Rising l → atoms_in (atoms_of l) ≡ l
unfolding atoms_in
atoms_back l h r =
    rw (atoms_set l h)
    (rising_same (keep (has (set_of l)) (below most_atoms)) l (keep_rises (has (set_of l)) (below most_atoms) (numbers_rise 0 most_atoms)) r
    (λ a m. in_set l a (in_keep (has (set_of l)) (below most_atoms) a m).1)
    (λ a m. keep_in (has (set_of l)) (below most_atoms) a (numbers_in 0 most_atoms a (omega arith) (omega (arith, h a m))) (set_in l a m)))
