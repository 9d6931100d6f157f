-- The laws of every, some, keep, gather and runs of numbers: what each says of the elements. By induction on the list. Assumes nothing.
use mathlib.Core.Path.{◌≡◌, refl, sym, ap, ◌∙◌, subst}
use mathlib.Core.Bool.{Bool, true, false, ◌&&◌, ◌||◌, cond}
use mathlib.Core.Logic.{⊎_elim}
use mathlib.Core.List.Memᴰ
use mathlib.Core.List.{List, [], ◌∷◌, ◌++◌, map, append_assoc, Memᴰ}
use Prim.Native.Nat.{ℕ, zero, suc, ◌+◌, ◌-◌, ◌≤◌, ◌<◌}
use native.Mathlib.Nat.{le_refl}
use native.Mathlib.Decide.{ℕ_discrete}
use native.Mathlib.Numerals.{add-one}
use native.Mathlib.Omega.{arith}
use lib.Dec.{T}
use lib.ListN.{length}
use Rattle.atoms.proofs.Truth.{and_l, and_r, both, or_l, or_r, or_cases}
use Rattle.lpod.specs.Lists.{every, some, keep, gather, numbers, Rising}

module _ {A : Type 0} (p : A → Bool) where
  pub every_at : (l : List A) → T (every p l) → (x : A) → Memᴰ x l → T (p x)
  unfolding every
  every_at [] t x m = elim m [ ]
  every_at (y ∷ l) t x m =
      ⊎_elim (λ e. subst (λ (z : A). T (p z)) (sym e) (and_l (p y) (every p l) t)) (λ n. every_at l (and_r (p y) (every p l) t) x n) (Memᴰ.cases_cons m)

  pub every_made : (l : List A) → ((x : A) → Memᴰ x l → T (p x)) → T (every p l)
  unfolding every
  every_made [] f = tt
  every_made (y ∷ l) f = both (p y) (every p l) (f y (Memᴰ.head refl)) (every_made l (λ x m. f x (Memᴰ.tail m)))

  pub some_at : (l : List A) → T (some p l) → (x : A) × (Memᴰ x l × T (p x))
  unfolding some
  some_at [] t = absurd t
  some_at (y ∷ l) t =
      ⊎_elim (λ h. (y, (Memᴰ.head refl, h))) (λ h. let r = some_at l h in (r.0, (Memᴰ.tail r.1.0, r.1.1))) (or_cases (p y) (some p l) t)

  pub some_made : (l : List A) (x : A) → Memᴰ x l → T (p x) → T (some p l)
  unfolding some
  some_made [] x m t = elim m [ ]
  some_made (y ∷ l) x m t =
      ⊎_elim (λ e. or_l (p y) (some p l) (subst (λ (z : A). T (p z)) e t)) (λ n. or_r (p y) (some p l) (some_made l x n t)) (Memᴰ.cases_cons m)

  -- where not every element passes, one fails
  pub every_fails : (l : List A) → (T (every p l) → ⊥) → (x : A) × (Memᴰ x l × (T (p x) → ⊥))
  unfolding every
  every_fails [] n = absurd (n tt)
  every_fails (y ∷ l) n = go (p y) refl n (every_fails l)
    where
      go : (b : Bool) → p y ≡ b → (T (b && every p l) → ⊥) → ((T (every p l) → ⊥) → (x : A) × (Memᴰ x l × (T (p x) → ⊥)))
          → (x : A) × (Memᴰ x (y ∷ l) × (T (p x) → ⊥))
      go true e n ih = let r = ih n in (r.0, (Memᴰ.tail r.1.0, r.1.1))
      go false e n ih = (y, (Memᴰ.head refl, λ t. subst T e t))

  pub every_append : (l m : List A) → every p (l ++ m) ≡ (every p l && every p m)
  unfolding every
  every_append [] m = refl
  every_append (x ∷ l) m = go (p x) (every_append l m)
    where
      go : (b : Bool) → every p (l ++ m) ≡ (every p l && every p m) → (b && every p (l ++ m)) ≡ ((b && every p l) && every p m)
      go true e = e
      go false e = refl

  pub some_append : (l m : List A) → some p (l ++ m) ≡ (some p l || some p m)
  unfolding some
  some_append [] m = refl
  some_append (x ∷ l) m = go (p x) (some_append l m)
    where
      go : (b : Bool) → some p (l ++ m) ≡ (some p l || some p m) → (b || some p (l ++ m)) ≡ ((b || some p l) || some p m)
      go true e = refl
      go false e = e

  pub keep_in : (l : List A) (x : A) → Memᴰ x l → T (p x) → Memᴰ x (keep p l)
  unfolding keep
  keep_in [] x m t = elim m [ ]
  keep_in (y ∷ l) x m t = ⊎_elim (λ e. go (p y) (subst (λ (z : A). T (p z)) e t) e) (λ n. on (p y) (keep_in l x n t)) (Memᴰ.cases_cons m)
    where
      go : (b : Bool) → T b → x ≡ y → Memᴰ x (cond b (y ∷ keep p l) (keep p l))
      go true u e = Memᴰ.head e
      go false u e = absurd u

      on : (b : Bool) → Memᴰ x (keep p l) → Memᴰ x (cond b (y ∷ keep p l) (keep p l))
      on true n = Memᴰ.tail n
      on false n = n

  pub in_keep : (l : List A) (x : A) → Memᴰ x (keep p l) → Memᴰ x l × T (p x)
  unfolding keep
  in_keep [] x m = elim m [ ]
  in_keep (y ∷ l) x m = go (p y) refl m (in_keep l x)
    where
      go : (b : Bool) → p y ≡ b → Memᴰ x (cond b (y ∷ keep p l) (keep p l)) → (Memᴰ x (keep p l) → Memᴰ x l × T (p x)) → Memᴰ x (y ∷ l) × T (p x)
      go true e m ih =
          ⊎_elim (λ q. (Memᴰ.head q, subst (λ (z : A). T (p z)) (sym q) (subst T (sym e) tt))) (λ n. (Memᴰ.tail (ih n).0, (ih n).1)) (Memᴰ.cases_cons m)
      go false e m ih = (Memᴰ.tail (ih m).0, (ih m).1)

  pub keep_append : (l m : List A) → keep p (l ++ m) ≡ keep p l ++ keep p m
  unfolding keep
  keep_append [] m = refl
  keep_append (x ∷ l) m = go (p x) (keep_append l m)
    where
      go : (b : Bool) → keep p (l ++ m) ≡ keep p l ++ keep p m → cond b (x ∷ keep p (l ++ m)) (keep p (l ++ m)) ≡ cond b (x ∷ keep p l) (keep p l) ++ keep p m
      go true e = ap (λ (k : List A). x ∷ k) e
      go false e = e

  -- no more pass than there are
  pub keep_length : (l : List A) → length (keep p l) ≤ length l
  unfolding keep
  keep_length [] = le_refl 0
  keep_length (x ∷ l) = go (p x) (keep_length l)
    where
      go : (b : Bool) → length (keep p l) ≤ length l → length (cond b (x ∷ keep p l) (keep p l)) ≤ suc (length l)
      go true h = omega arith
      go false h = omega arith

-- two tests that agree on the elements keep the same
pub keep_same : {A : Type 0} (p q : A → Bool) (l : List A) → ((x : A) → Memᴰ x l → p x ≡ q x) → keep p l ≡ keep q l
unfolding keep
keep_same p q [] e = refl
keep_same p q (x ∷ l) e = rw (e x (Memᴰ.head refl), keep_same p q l (λ y m. e y (Memᴰ.tail m)))

-- more pass a weaker test; strictly more if some element passes only that
module _ {A : Type 0} (p q : A → Bool) (imp : (x : A) → T (p x) → T (q x)) where
  pub keep_more : (l : List A) → length (keep p l) ≤ length (keep q l)
  unfolding keep
  keep_more [] = le_refl 0
  keep_more (x ∷ l) = go (p x) (q x) (imp x) (keep_more l)
    where
      go : (b c : Bool) → (T b → T c) → length (keep p l) ≤ length (keep q l) → length (cond b (x ∷ keep p l) (keep p l)) ≤ length (cond c (x ∷ keep q l) (keep q l))
      go true true f h = omega arith
      go true false f h = absurd (f tt)
      go false true f h = omega arith
      go false false f h = h

  pub keep_strict : (l : List A) (x : A) → Memᴰ x l → T (q x) → (T (p x) → ⊥) → length (keep p l) < length (keep q l)
  unfolding keep
  keep_strict [] x m t n = elim m [ ]
  keep_strict (y ∷ l) x m t n =
      ⊎_elim (λ e. here (p y) (q y) (λ u. n (subst (λ (z : A). T (p z)) (sym e) u)) (subst (λ (z : A). T (q z)) e t) (keep_more l))
      (λ i. there (p y) (q y) (imp y) (keep_strict l x i t n)) (Memᴰ.cases_cons m)
    where
      here : (b c : Bool) → (T b → ⊥) → T c → length (keep p l) ≤ length (keep q l) → length (cond b (y ∷ keep p l) (keep p l)) < length (cond c (y ∷ keep q l) (keep q l))
      here true c f t h = absurd (f tt)
      here false true f t h = omega arith
      here false false f t h = absurd t

      there : (b c : Bool) → (T b → T c) → length (keep p l) < length (keep q l) → length (cond b (y ∷ keep p l) (keep p l)) < length (cond c (y ∷ keep q l) (keep q l))
      there true true f h = omega arith
      there true false f h = absurd (f tt)
      there false true f h = omega arith
      there false false f h = h

-- all pass only if the count is the whole
pub keep_all : {A : Type 0} (p : A → Bool) (l : List A) → length l ≤ length (keep p l) → (x : A) → Memᴰ x l → T (p x)
unfolding keep
keep_all p [] h x m = elim m [ ]
keep_all {A} p (y ∷ l) h x m = go (p y) refl h (keep_length p l) (keep_all p l)
  where
    go : (b : Bool) → p y ≡ b → suc (length l) ≤ length (cond b (y ∷ keep p l) (keep p l)) → length (keep p l) ≤ length l
        → (length l ≤ length (keep p l) → (x : A) → Memᴰ x l → T (p x)) → T (p x)
    go true e h k ih = ⊎_elim (λ q. subst (λ (z : A). T (p z)) (sym q) (subst T (sym e) tt)) (λ n. ih (omega arith) x n) (Memᴰ.cases_cons m)
    go false e h k ih = absurd (omega arith)

-- ---- gather and map
module _ {A B : Type 0} (f : A → List B) where
  pub in_gather : (l : List A) (y : B) → Memᴰ y (gather f l) → (x : A) × (Memᴰ x l × Memᴰ y (f x))
  unfolding gather
  in_gather [] y m = elim m [ ]
  in_gather (x ∷ l) y m =
      ⊎_elim (λ n. (x, (Memᴰ.head refl, n))) (λ n. let r = in_gather l y n in (r.0, (Memᴰ.tail r.1.0, r.1.1))) (Memᴰ.append_cases (f x) m)

  pub gather_in : (l : List A) (x : A) (y : B) → Memᴰ x l → Memᴰ y (f x) → Memᴰ y (gather f l)
  unfolding gather
  gather_in [] x y m n = elim m [ ]
  gather_in (z ∷ l) x y m n =
      ⊎_elim (λ e. Memᴰ.append_left (gather f l) (subst (λ (w : A). Memᴰ y (f w)) e n)) (λ i. Memᴰ.append_right (f z) (gather_in l x y i n)) (Memᴰ.cases_cons m)

  pub gather_append : (l m : List A) → gather f (l ++ m) ≡ gather f l ++ gather f m
  unfolding gather
  gather_append [] m = refl
  gather_append (x ∷ l) m = ap (λ (k : List B). f x ++ k) (gather_append l m) ∙ sym (append_assoc (f x) (gather f l) (gather f m))

module _ {A B : Type 0} (f : A → B) where
  pub in_map : (l : List A) (y : B) → Memᴰ y (map f l) → (x : A) × (Memᴰ x l × (y ≡ f x))
  in_map [] y m = elim m [ ]
  in_map (x ∷ l) y m =
      ⊎_elim (λ e. (x, (Memᴰ.head refl, e))) (λ n. let r = in_map l y n in (r.0, (Memᴰ.tail r.1.0, r.1.1))) (Memᴰ.cases_cons m)

  pub map_in : (l : List A) (x : A) → Memᴰ x l → Memᴰ (f x) (map f l)
  map_in [] x m = elim m [ ]
  map_in (y ∷ l) x m = ⊎_elim (λ e. Memᴰ.head (ap f e)) (λ n. Memᴰ.tail (map_in l x n)) (Memᴰ.cases_cons m)

-- ---- runs of numbers
pub in_numbers : (i n k : ℕ) → Memᴰ k (numbers i n) → (i ≤ k) × (k < i + n)
unfolding numbers
in_numbers i zero k m = elim m [ ]
in_numbers i (suc n) k m =
    ⊎_elim (λ e. (omega (arith, e), omega (arith, e))) (λ h. let r = in_numbers (suc i) n k h in (omega (arith, r.0), omega (arith, r.1))) (Memᴰ.cases_cons m)

pub numbers_in : (i n k : ℕ) → i ≤ k → k < i + n → Memᴰ k (numbers i n)
unfolding numbers
numbers_in i zero k l h = absurd (omega arith)
numbers_in i (suc n) k l h = go (ℕ_discrete k i) (λ l h. numbers_in (suc i) n k l h)
  where
    go : Dec (k ≡ i) → (suc i ≤ k → k < suc i + n → Memᴰ k (numbers (suc i) n)) → Memᴰ k (i ∷ numbers (suc i) n)
    go (yes e) ih = Memᴰ.head e
    go (no e) ih = Memᴰ.tail (ih (omega arith) (omega arith))

pub numbers_rise : (i n : ℕ) → Rising (numbers i n)
unfolding numbers
numbers_rise i zero = tt
numbers_rise i (suc n) = ((λ b m. (in_numbers (suc i) n b m).0), numbers_rise (suc i) n)

-- a count up from i to n: the numbers from i on are i and those from i + 1 on
pub numbers_next : (i n : ℕ) → i < n → numbers i (n - i) ≡ i ∷ numbers (i + 1) (n - (i + 1))
unfolding numbers
numbers_next i n h =
    let e : n - i ≡ suc (n - (i + 1)) = omega arith in
    ap (numbers i) e ∙ ap (λ (k : ℕ). i ∷ numbers k (n - (i + 1))) (sym (add-one i))

pub numbers_done : (i n : ℕ) → n ≤ i → numbers i (n - i) ≡ []
unfolding numbers
numbers_done i n h = let e : n - i ≡ 0 = omega arith in ap (numbers i) e

-- what is kept of a rising list rises
pub keep_rises : (p : ℕ → Bool) (l : List ℕ) → Rising l → Rising (keep p l)
unfolding keep
keep_rises p [] r = tt
keep_rises p (a ∷ l) r = go (p a) (keep_rises p l r.1)
  where
    go : (b : Bool) → Rising (keep p l) → Rising (cond b (a ∷ keep p l) (keep p l))
    go true h = ((λ b m. r.0 b (in_keep p l b m).0), h)
    go false h = h

-- a list that is not empty has an element, and one with an element is not empty
pub one_of : {A : Type 0} (l : List A) → 0 < length l → (x : A) × Memᴰ x l
one_of [] h = absurd (omega arith)
one_of (x ∷ l) h = (x, Memᴰ.head refl)

pub of_one : {A : Type 0} (l : List A) (x : A) → Memᴰ x l → 0 < length l
of_one [] x m = elim m [ ]
of_one (y ∷ l) x m = omega arith
