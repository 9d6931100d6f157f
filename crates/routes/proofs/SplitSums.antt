-- Sums over a list and over the numbers below n: equal terms give equal sums, two sums can be exchanged, a part is at most the whole; and a sum over the
-- options of a row is one over their numbers. By induction. Assumes nothing.
use mathlib.Core.Path.{◌≡◌, refl, sym, ◌∙◌}
use mathlib.Core.List.{List, [], ◌∷◌, ◌++◌, append_assoc, append-nil}
use Prim.Native.Nat.{ℕ, zero, suc, ◌+◌, ◌≤◌}
use native.Mathlib.Nat.{le_refl}
use native.Mathlib.Numerals.{add-one}
use native.Mathlib.Decide.{le_ind}
use native.Mathlib.Omega.{arith}
use lib.ListN.{length, get_or, take}
use Rattle.lpod.specs.Rule.{Rule}
use Rattle.lpod.specs.Split.{Option, gives, options_from, options_of, options, option_count}
use Rattle.routes.specs.Choice.{option_in, option_at}

-- ---- sums over a list, and over the numbers below n
unfoldable pub sum_over : {A : Type 0} → List A → (A → ℕ) → ℕ
sum_over [] f = 0
sum_over (x ∷ l) f = f x + sum_over l f

unfoldable pub sum_below : ℕ → (ℕ → ℕ) → ℕ
sum_below zero f = 0
sum_below (suc n) f = sum_below n f + f n

module _ {A : Type 0} where
  pub sum_same : (l : List A) (f g : A → ℕ) → ((x : A) → f x ≡ g x) → sum_over l f ≡ sum_over l g
  unfolding sum_over
  sum_same [] f g e = refl
  sum_same (x ∷ l) f g e = rw (e x, sum_same l f g e)

sum_none : {A : Type 0} (l : List A) → sum_over l (λ x. 0) ≡ 0
unfolding sum_over
sum_none [] = refl
sum_none (x ∷ l) = omega (arith, sum_none l)

sum_both : {A : Type 0} (l : List A) (f g : A → ℕ) → sum_over l (λ x. f x + g x) ≡ sum_over l f + sum_over l g
unfolding sum_over
sum_both [] f g = refl
sum_both (x ∷ l) f g = omega (arith, sum_both l f g)

pub sum_swap : {A B : Type 0} (l : List A) (m : List B) (f : A → B → ℕ) → sum_over l (λ x. sum_over m (f x)) ≡ sum_over m (λ y. sum_over l (λ x. f x y))
unfolding sum_over
sum_swap [] m f = sym (sum_none m)
sum_swap (x ∷ l) m f = rw (sum_swap l m f) (sym (sum_both m (f x) (λ y. sum_over l (λ x. f x y))))

pub below_same : (n : ℕ) (f g : ℕ → ℕ) → ((k : ℕ) → f k ≡ g k) → sum_below n f ≡ sum_below n g
unfolding sum_below
below_same zero f g e = refl
below_same (suc n) f g e = rw (e n, below_same n f g e)

-- the first, and the rest
below_first : (n : ℕ) (f : ℕ → ℕ) → sum_below (suc n) f ≡ f 0 + sum_below n (λ k. f (suc k))
unfolding sum_below
below_first zero f = omega arith
below_first (suc n) f = omega (arith, below_first n f)

pub below_more : (n : ℕ) (f : ℕ → ℕ) → sum_below (n + 1) f ≡ sum_below n f + f n
unfolding sum_below
below_more n f = rw add-one refl

pub below_part : (n m : ℕ) (f : ℕ → ℕ) → n ≤ m → sum_below n f ≤ sum_below m f
unfolding sum_below
below_part n m f h = le_ind (λ (k : ℕ). sum_below n f ≤ sum_below k f) (le_refl _) (λ k (l : n ≤ k) e. omega arith) m h

-- ---- a sum over the options of a row is one over their numbers
options_from_lem : (r : Rule) (e hs : List ℕ) (f : Option → ℕ)
    → sum_over (options_from r e hs) f ≡ sum_below (length hs) (λ k. f (gives (get_or hs k 0) r.pos (r.neg ++ (e ++ take k hs))))
unfolding options_from sum_over sum_below
options_from_lem r e [] f = refl
options_from_lem r e (c ∷ cs) f =
    rw (options_from_lem r (e ++ c ∷ []) cs f) (first ∙ sym (below_first (length cs) term))
  where
    term : ℕ → ℕ
    term k = f (gives (get_or (c ∷ cs) k 0) r.pos (r.neg ++ (e ++ take k (c ∷ cs))))

    next : ℕ → ℕ
    next k = f (gives (get_or cs k 0) r.pos (r.neg ++ ((e ++ c ∷ []) ++ take k cs)))

    first : f (gives c r.pos (r.neg ++ e)) + sum_below (length cs) next ≡ term 0 + sum_below (length cs) (λ k. term (suc k))
    first = rw (append-nil e, below_same (length cs) next (λ k. term (suc k)) (λ k. rw (append_assoc e (c ∷ []) (take k cs))))

pub options_sum : (r : Rule) (f : Option → ℕ) → sum_over (options r) f ≡ sum_below (option_count r.head) (λ k. f (option_at r k))
unfolding options option_at options_of option_in option_count sum_over sum_below
options_sum r f = go r.head
  where
    go : (hs : List ℕ) → sum_over (options_of r hs) f ≡ sum_below (option_count hs) (λ k. f (option_in r k hs))
    go [] = omega arith
    go (c ∷ cs) = options_from_lem r [] (c ∷ cs) f
