-- What the split test answers, in the steps of the code: refused for the other refusals, or for the 12 of too many split programs, or the count.
-- Assumes nothing.
use Rattle.std.specs.Prelude.{Result, Ok, Err, IsErrAnd}
use mathlib.Core.Path.{◌≡◌, refl, sym, ap, ◌∙◌}
use mathlib.Core.Bool.{Bool, true, false, cond}
use mathlib.Core.List.{List, [], ◌∷◌}
use Prim.Native.Nat.{ℕ, zero, suc}
use native.Mathlib.Omega.{arith}
use lib.Dec.{ltb, eqb}
use borrow.Author.Tests.{ne_eqb}
use Rattle.lpod.specs.Rule.{Rule}
use Rattle.lpod.specs.Split.{split_number, split_count}
use Rattle.page.specs.Program.{program}
use Rattle.page.specs.Refusals as lists
use Rattle.page.specs.Answers.{number, answered, by_number}
use Rattle.page.specs.declared.refusal.Refusal.{Refusal}
use Rattle.page.specs.declared.refusal.Refusal.TheVariants.{TooManySplits}
use Rattle.page.proofs.Refusals.{given_append, test_numbered}
use Rattle.page.proofs.Refusing.{first_stands, then_rest, refused_here, refused_before, given}
use Rattle.words.specs.Coded.{rules_in, row_words}
use Rattle.words.proofs.Lent.{test_page, lent_rows}
use Rattle.routes.specs.Split.{with_yes, too_many, split_refusals, split_no, counted, uncounted, split_test, SplitSays}
use Rattle.routes.proofs.SplitNumber.{too_many_rows}

told : (n c : ℕ) → with_yes (by_number 0 n c) ≡ cond (eqb n 0) (counted c) (uncounted n)
unfolding by_number counted uncounted
told zero c = refl
told (suc n) c = rw (ne_eqb (suc n) 0 (λ q. omega arith))

module _ (page : List ℕ) (flags set : ℕ) where
  -- where the number is 0, so is that of the other refusals
  pub split_test_zero : split_no page flags set ≡ 0 → lists.test_no page flags set ≡ 0
  unfolding split_no split_refusals lists.test_no
  split_test_zero e = (given_append (lists.test_refusals page flags set) (lists.refuse 12 (too_many page flags) ∷ []) (test_numbered page flags set) e).0

  says : (r : Result ℕ Refusal) → answered 0 r ≡ by_number 0 (split_no page flags set) (split_count (program page flags) set) → SplitSays page flags set r
  unfolding split_test
  says r e = ap with_yes e ∙ told (split_no page flags set) (split_count (program page flags) set)

  -- ---- the code's steps
  pub refused_test : (r : Result ℕ Refusal) (e : Refusal) → IsErrAnd r (λ y. y ≡ e) → number e ≡ lists.test_no page flags set → SplitSays page flags set r
  unfolding split_no split_refusals lists.test_no
  refused_test r e p q =
      says r (refused_before 0 _ _ r e p (first_stands (lists.test_refusals page flags set) (lists.refuse 12 (too_many page flags) ∷ []) (test_numbered page flags set) e q))

  module _ (z : 0 ≡ lists.test_no page flags set) (b : Bool) (eb : b ≡ too_many page flags) where
    the_number : cond b 12 0 ≡ split_no page flags set
    unfolding split_no split_refusals lists.test_no lists.first_that
    the_number = then_rest (lists.test_refusals page flags set) (lists.refuse 12 (too_many page flags) ∷ []) (test_numbered page flags set) (cond b 12 0) z (rw eb)

    pub refused_many : b ≡ true → SplitSays page flags set (Err TooManySplits)
    refused_many t = says (Err TooManySplits) (refused_here 0 _ _ TooManySplits (ap (λ b. cond b 12 0) (sym t) ∙ the_number))

    pub counted_splits : b ≡ false → (n : ℕ) → n ≡ split_count (program page flags) set → SplitSays page flags set (Ok n)
    counted_splits t n e = says (Ok n) (given 0 _ _ (ap (λ b. cond b 12 0) (sym t) ∙ the_number) n e)

  -- the words of the page say whether there are too many
  pub many_words : 0 ≡ lists.test_no page flags set → (rows : List ℕ) → rows ≡ row_words page → (b : Bool) → b ≡ ltb 4096 (split_number (rules_in rows)) → b ≡ too_many page flags
  many_words z rows er b eb =
      eb ∙ ap (λ (P : List Rule). ltb 4096 (split_number P)) (lent_rows page (test_page page flags set z) rows er) ∙ sym (too_many_rows page flags)
