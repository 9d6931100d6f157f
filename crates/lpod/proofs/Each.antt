-- What `all` and `any` answer of a list in code is what `every` says of it: what they tell of each element by its place settles the answer.
-- Assumes nothing.
use mathlib.Core.Path.{◌≡◌, refl, sym}
use mathlib.Core.Bool.{Bool, true, false, ◌&&◌, not}
use mathlib.Core.List.{List, [], ◌∷◌, map}
use Prim.Native.Nat.{ℕ, zero, suc, ◌<◌}
use native.Mathlib.Omega.{arith}
use lib.ListN.{length, get_or}
use Rattle.lpod.specs.Lists.{every}

module _ {A B : Type 0} (p : B → Bool) (f : A → B) (d : A) where
  each_true : (l : List A) → ((k : ℕ) → k < length l → p (f (get_or l k d)) ≡ true) → every p (map f l) ≡ true
  unfolding every
  each_true [] h = refl
  each_true (x ∷ l) h = rw (h 0 (omega arith)) (each_true l (λ k b. h (suc k) (omega arith)))

  some_false : (l : List A) (k : ℕ) → k < length l → p (f (get_or l k d)) ≡ false → every p (map f l) ≡ false
  unfolding every
  some_false [] k b e = absurd (omega arith)
  some_false (x ∷ l) zero b e = rw e
  some_false (x ∷ l) (suc k) b e = go (p (f x)) (every p (map f l)) (some_false l k (omega arith) e)
    where
      go : (a b : Bool) → b ≡ false → (a && b) ≡ false
      go true b e = e
      go false b e = refl

  -- `all`
  pub all_every : (l : List A) (b : Bool) → (b ≡ true → (k : ℕ) → k < length l → p (f (get_or l k d)) ≡ true)
      → (b ≡ false → (k : ℕ) × (k < length l) × (p (f (get_or l k d)) ≡ false)) → b ≡ every p (map f l)
  all_every l true t e = sym (each_true l (t refl))
  all_every l false t e = let h = e refl in sym (some_false l h.0 h.1 h.2)

  -- `any`, of what must not be
  pub any_every : (l : List A) (b : Bool) → (b ≡ false → (k : ℕ) → k < length l → p (f (get_or l k d)) ≡ true)
      → (b ≡ true → (k : ℕ) × (k < length l) × (p (f (get_or l k d)) ≡ false)) → not b ≡ every p (map f l)
  any_every l true t e = let h = e refl in sym (some_false l h.0 h.1 h.2)
  any_every l false t e = sym (each_true l (t refl))
