-- What is kept of a list by a test: by the same test, by one that none or all pass, by two tests one after the other, and of a longer run of numbers
-- where nothing above passes. By induction on the list. Assumes nothing.
use mathlib.Core.Path.{◌≡◌, refl, ap, ◌∙◌}
use mathlib.Core.Bool.{Bool, true, false, ◌&&◌, cond}
use mathlib.Core.List.{List, [], ◌∷◌, ◌++◌, append-nil, Memᴰ}
use Prim.Native.Nat.{ℕ, zero, suc, ◌+◌, ◌-◌, ◌≤◌, ◌<◌}
use native.Mathlib.Omega.{arith}
use lib.Dec.{T}
use Rattle.atoms.proofs.Truth.{yes_true, no_false}
use Rattle.lpod.specs.Lists.{keep, numbers, below}
use Rattle.lpod.proofs.Lists.{keep_append, in_numbers}

pub keep_same : {A : Type 0} (f g : A → Bool) (l : List A) → ((x : A) → Memᴰ x l → f x ≡ g x) → keep f l ≡ keep g l
unfolding keep
keep_same f g [] e = refl
keep_same f g (x ∷ l) e = rw (e x (Memᴰ.head refl), keep_same f g l (λ y m. e y (Memᴰ.tail m)))

pub keep_none : {A : Type 0} (f : A → Bool) (l : List A) → ((x : A) → Memᴰ x l → T (f x) → ⊥) → keep f l ≡ []
unfolding keep
keep_none f [] n = refl
keep_none f (x ∷ l) n = rw (no_false (f x) (n x (Memᴰ.head refl))) (keep_none f l (λ y m. n y (Memᴰ.tail m)))

pub keep_whole : {A : Type 0} (f : A → Bool) (l : List A) → ((x : A) → Memᴰ x l → T (f x)) → keep f l ≡ l
unfolding keep
keep_whole f [] n = refl
keep_whole {A} f (x ∷ l) n = rw (yes_true (f x) (n x (Memᴰ.head refl))) (ap (λ (m : List A). x ∷ m) (keep_whole f l (λ y m. n y (Memᴰ.tail m))))

-- by one test and then by another
pub keep_both : {A : Type 0} (f g : A → Bool) (l : List A) → keep (λ x. f x && g x) l ≡ keep g (keep f l)
unfolding keep
keep_both f g [] = refl
keep_both {A} f g (x ∷ l) = go (f x) (keep_both f g l)
  where
    go : (b : Bool) → keep (λ x. f x && g x) l ≡ keep g (keep f l)
        → cond (b && g x) (x ∷ keep (λ x. f x && g x) l) (keep (λ x. f x && g x) l) ≡ keep g (cond b (x ∷ keep f l) (keep f l))
    go true e = rw e
    go false e = e

pub numbers_append : (i m n : ℕ) → numbers i (m + n) ≡ numbers i m ++ numbers (i + m) n
unfolding numbers
numbers_append i zero n = let e : i + 0 ≡ i = omega arith in let f : 0 + n ≡ n = omega arith in rw (e, f)
numbers_append i (suc m) n =
    let e : suc m + n ≡ suc (m + n) = omega arith in
    let f : i + suc m ≡ suc i + m = omega arith in
    rw (e, f) (ap (λ (l : List ℕ). i ∷ l) (numbers_append (suc i) m n))

-- a longer run keeps no more where nothing above passes
pub keep_short : (f : ℕ → Bool) (n m : ℕ) → n ≤ m → ((s : ℕ) → T (f s) → s < n) → keep f (below m) ≡ keep f (below n)
keep_short f n m h b =
    let e : m ≡ n + (m - n) = omega arith in
    ap (λ (k : ℕ). keep f (below k)) e ∙ ap (keep f) (numbers_append 0 n (m - n)) ∙ keep_append f (below n) (numbers (0 + n) (m - n))
    ∙ ap (λ (l : List ℕ). keep f (below n) ++ l) (keep_none f (numbers (0 + n) (m - n)) (λ s i t. omega (arith, (in_numbers (0 + n) (m - n) s i).0, b s t)))
    ∙ append-nil (keep f (below n))
