-- Beaten sets may be left out while the best ones are sought: over any transitive relation that prefers nothing to itself, each set that is not best
-- has a best one preferred to it. So where no best set is lost the best of what is left are the best of all. Assumes nothing.
use mathlib.Core.Path.{◌≡◌, refl}
use mathlib.Core.Bool.{Bool, true, false}
use mathlib.Core.List.{Memᴰ}
use Prim.Native.Nat.{ℕ, ◌<◌}
use native.Mathlib.Omega.{arith}
use lib.Dec.{T}
use Rattle.atoms.proofs.Truth.{and_l, and_r, both, true_yes, false_no}
use Rattle.lpod.specs.Lists.{numbers}
use Rattle.lpod.specs.Best.{none_over, best_of}
use Rattle.lpod.proofs.Lists.{keep_in, in_keep, in_numbers, numbers_in}
use Rattle.lpod.proofs.BestAbove.{none_says, says_none, best_above}
use Rattle.lanes.specs.Seek.{all_from}
use Rattle.lanes.specs.Search.{best_among}

-- all sets that pass: those below 65,536
module _ (q : ℕ → Bool) where
  pub in_all : (s : ℕ) → Memᴰ s (all_from q 0) → (s < 65536) × T (q s)
  unfolding all_from
  in_all s m = let k = in_keep q (numbers 0 65536) s m in let i = in_numbers 0 65536 s k.0 in (omega (arith, i.1), k.1)

  pub all_in : (s : ℕ) → s < 65536 → T (q s) → Memᴰ s (all_from q 0)
  unfolding all_from
  all_in s l t = keep_in q (numbers 0 65536) s (numbers_in 0 65536 s (omega arith) (omega arith)) t

module _ (over : ℕ → ℕ → Bool) (q : ℕ → Bool) where
  pub best_passes : (s : ℕ) → T (best_among over q s) → T (q s)
  unfolding best_among
  best_passes s t = and_l (q s) (none_over over (all_from q 0) s) t

  -- nothing that passes is preferred to a best set
  pub best_unbeaten : (s y : ℕ) → y < 65536 → T (q y) → T (over y s) → T (best_among over q s) → ⊥
  unfolding best_among
  best_unbeaten s y l p o t = none_says over (all_from q 0) s (and_r (q s) (none_over over (all_from q 0) s) t) y (all_in q y l p) o

  pub unbeaten_best : (s : ℕ) → T (q s) → ((y : ℕ) → y < 65536 → T (q y) → T (over y s) → ⊥) → T (best_among over q s)
  unfolding best_among
  unbeaten_best s t f =
      both (q s) (none_over over (all_from q 0) s) t (says_none over (all_from q 0) s (λ y m o. let i = in_all q y m in f y i.0 i.1 o))

-- ---- what is asked of the relation
pub record Strict (over : ℕ → ℕ → Bool) : Type 0 where
  pub never : (x : ℕ) → T (over x x) → ⊥
  pub onward : (x y z : ℕ) → T (over x y) → T (over y z) → T (over x z)

-- ---- p is what is left of q
module _ (over : ℕ → ℕ → Bool) (o : Strict over) (q p : ℕ → Bool) (less : (s : ℕ) → T (p s) → T (q s)) (kept : (s : ℕ) → T (best_among over q s) → T (p s)) where
  -- nothing that is left is preferred to s, which is left: then it is best of all
  pub kept_best : (s : ℕ) → s < 65536 → T (p s) → ((y : ℕ) → y < 65536 → T (p y) → T (over y s) → ⊥) → T (best_among over q s)
  unfolding best_among best_of
  kept_best s l t f = go (none_over over (all_from q 0) s) refl
    where
      go : (a : Bool) → none_over over (all_from q 0) s ≡ a → T (best_among over q s)
      go true e = both (q s) (none_over over (all_from q 0) s) (less s t) (true_yes e)
      go false e =
          let b = best_above over o.never o.onward (all_from q 0) s (all_in q s l (less s t)) (false_no e) in
          let k = in_keep (none_over over (all_from q 0)) (all_from q 0) b.0 b.1.0 in
          let i = in_all q b.0 k.0 in
          absurd (f b.0 i.0 (kept b.0 (both (q b.0) (none_over over (all_from q 0) b.0) i.1 k.1)) b.1.1)

  -- the best of what is left are the best of all
  pub best_kept : (s : ℕ) → T (best_among over q s) → T (best_among over p s)
  best_kept s t = unbeaten_best over p s (kept s t) (λ y l u v. best_unbeaten over q s y l (less y u) v t)

  pub same_best : (s : ℕ) → s < 65536 → T (best_among over p s) → T (best_among over q s)
  same_best s l t = kept_best s l (best_passes over p s t) (λ y k u v. best_unbeaten over p s y k u v t)
