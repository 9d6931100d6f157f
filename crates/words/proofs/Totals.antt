-- The smaller of two numbers is what the definition of the totals says. Assumes nothing.
use mathlib.Core.Path.{◌≡◌, refl}
use mathlib.Core.Bool.{Bool, true, false, cond}
use Prim.Native.Nat.{ℕ, min}
use native.Mathlib.Omega.{arith}
use lib.Dec.{ltb}
use borrow.Author.Tests.{ltb-true, ltb-false}
use Rattle.words.specs.Coded.{at_most}

pub min_at_most : (a n most : ℕ) → a ≡ n → min a most ≡ at_most most n
unfolding at_most
min_at_most a n most e = go (ltb n most) refl
  where
    go : (b : Bool) → ltb n most ≡ b → min a most ≡ cond b n most
    go true t = omega (arith, ltb-true n most t)
    go false t = omega (arith, ltb-false n most t)
