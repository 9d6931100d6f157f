-- A body as a set: all its atoms are in s where the set is a part of s, and some is where the two have an atom in common. A set of 16 bits has the
-- atoms of its list and no others. Assumes nothing.
use mathlib.Core.Path.{◌≡◌, sym, ap, ◌∙◌, subst}
use mathlib.Core.Bool.{◌&&◌, not}
use Prim.Native.Nat.{ℕ, ◌^◌, ◌<◌}
use native.Mathlib.Omega.{arith}
use lib.Bits.{and_le_l}
use lib.Count.{count_trailing_zeros}
use lib.Dec.{T, eqb, eqb→eq, T_not, not_T}
use Rattle.atoms.specs.Atoms.{has, inside, common}
use Rattle.atoms.proofs.Truth.{and_l, and_r, both, same_yes, true_yes}
use Rattle.atoms.proofs.Bits.{has_and, has_zero, has_below, inside_test, test_inside}
use Rattle.atoms.proofs.Count.{lowest_in}
use Rattle.lpod.specs.Lists.{every, some, keep, below}
use Rattle.lpod.specs.Satisfied.{all_in, some_in}
use Rattle.lpod.proofs.Lists.{every_at, every_made, some_at, some_made, keep_in, in_keep, numbers_in}
use Rattle.words.specs.Coded.{atoms_in}
use borrow.Author.Tests.{eq-eqb}

module _ (w s : ℕ) (h : w < 2 ^ 16) where
  pub body_all : all_in (atoms_in w) s ≡ inside w s
  unfolding all_in atoms_in
  body_all =
      same_yes (every (has s) (keep (has w) (below 16))) (inside w s)
      (λ t. inside_test w s (λ a u. every_at (has s) (keep (has w) (below 16)) t a (keep_in (has w) (below 16) a (numbers_in 0 16 a (omega arith) (omega (arith, has_below 16 w a h u))) u)))
      (λ t. every_made (has s) (keep (has w) (below 16)) (λ a m. test_inside w s t a (in_keep (has w) (below 16) a m).1))

  pub body_some : some_in (atoms_in w) s ≡ not (eqb (common w s) 0)
  unfolding some_in atoms_in
  body_some = same_yes (some (has s) (keep (has w) (below 16))) (not (eqb (common w s) 0)) to from
    where
      to : T (some (has s) (keep (has w) (below 16))) → T (not (eqb (common w s) 0))
      to t =
          let x = some_at (has s) (keep (has w) (below 16)) t in
          let i : T (has (common w s) x.0)
          = subst T (sym (has_and w s x.0)) (both (has w x.0) (has s x.0) (in_keep (has w) (below 16) x.0 x.1.0).1 x.1.1) in
          not_T (eqb (common w s) 0) (λ z. subst T (ap (λ (c : ℕ). has c x.0) (eqb→eq (common w s) 0 z) ∙ has_zero x.0) i)

      from : T (not (eqb (common w s) 0)) → T (some (has s) (keep (has w) (below 16)))
      from t =
          let le = and_le_l w s in
          let some-bit : (common w s ≡ 0 → ⊥) = λ z. T_not (eqb (common w s) 0) t (true_yes (eq-eqb (common w s) 0 z)) in
          let positive : 0 < common w s = omega (arith, some-bit) in
          let a = count_trailing_zeros 16 (common w s) in
          let i : T (has w a && has s a) = subst T (has_and w s a) (lowest_in 16 (common w s) (omega (arith, le)) positive) in
          let u = and_l (has w a) (has s a) i in
          some_made (has s) (keep (has w) (below 16)) a (keep_in (has w) (below 16) a (numbers_in 0 16 a (omega arith) (omega (arith, has_below 16 w a h u))) u) (and_r (has w a) (has s a) i)
