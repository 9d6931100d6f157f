-- Entries stored one after the other from a place on: part after part, and all of them from the start of a slice. Assumes nothing.
use mathlib.Core.Path.{◌≡◌, ◌∙◌}
use mathlib.Core.List.{List, [], ◌∷◌, ◌++◌}
use Prim.Native.Nat.{ℕ, suc, ◌+◌, ◌-◌, ◌≤◌, ◌<◌}
use native.Mathlib.Nat.{zero-add}
use native.Mathlib.Numerals.{add-one}
use native.Mathlib.Omega.{arith}
use lib.ListN.{length, set}
use lib.Seq.{sets, sets-eq}
use Rattle.lpod.specs.Lists.{numbers}
use Rattle.lpod.proofs.Lists.{numbers_next, numbers_done}
use Rattle.lanes.specs.Entries.{over}

pub over_sets : (xs out : List ℕ) → length xs ≤ length out → sets out 0 xs ≡ over xs out
unfolding over
over_sets xs out h = let i : 0 + length xs ≤ length out = omega arith in sets-eq xs out 0 i ∙ rw zero-add

sets_append : (xs ys out : List ℕ) (k : ℕ) → sets out k (xs ++ ys) ≡ sets (sets out k xs) (k + length xs) ys
sets_append [] ys out k = let e : k + 0 ≡ k = omega arith in rw e
sets_append (x ∷ xs) ys out k = let e : k + suc (length xs) ≡ suc k + length xs = omega arith in rw e (sets_append xs ys (set out k x) (suc k))

-- the first part is stored, and the rest is to come
pub part_stored : (all xs ys out out' : List ℕ) (k k' : ℕ) → all ≡ xs ++ ys → out' ≡ sets out k xs → k' ≡ k + length xs → sets out k all ≡ sets out' k' ys
part_stored all xs ys out out' k k' e eo ek = rw (e, eo, ek) (sets_append xs ys out k)

-- a run of numbers, up to n: one more, and none left
module _ (out : List ℕ) (k i n : ℕ) where
  pub run_more : i < n → sets out k (numbers i (n - i)) ≡ sets (set out k i) (k + 1) (numbers (i + 1) (n - (i + 1)))
  run_more h = rw (numbers_next i n h, add-one k)

  pub run_done : n ≤ i → sets out k (numbers i (n - i)) ≡ out
  run_done h = rw (numbers_done i n h)
