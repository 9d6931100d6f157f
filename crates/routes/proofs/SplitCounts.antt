-- What the split test says, as theorems about its definition. Accepted, its count is the count in the definition of split programs, and it says yes
-- exactly where the set is an answer set: what the reduct test says, and the here-and-there test. Refused, it counts 0 and says no. Assumes nothing.
use mathlib.Core.Path.{◌≡◌, sym, ap, ◌∙◌}
use mathlib.Core.List.{List}
use Prim.Native.Nat.{ℕ}
use native.Mathlib.Decide.{ℕ_discrete}
use lib.Dec.{ltb, lt→ltb}
use borrow.Author.Tests.{ltb-true, eq-eqb, ne_eqb}
use Rattle.atoms.proofs.Truth.{same_yes, yes_true}
use Rattle.lpod.specs.Answer.{answer}
use Rattle.lpod.specs.Split.{split_count}
use Rattle.lpod.proofs.ReductIsSplit.{reduct_is_split}
use Rattle.page.specs.Program.{program}
use Rattle.page.specs.Answers.{by_number}
use Rattle.routes.specs.Split.{Split, split_no, counted, uncounted, split_test}
use Rattle.routes.specs.Tests.{Verdict, reduct_test, here_there_test}
use Rattle.routes.proofs.Verdicts.{reduct_says_here_there}
use Rattle.routes.proofs.SplitAccepted.{split_test_zero}

module _ (page : List ℕ) (flags set : ℕ) where
  accepted : split_no page flags set ≡ 0 → split_test page flags set ≡ counted (split_count (program page flags) set)
  unfolding split_test
  accepted e = rw (eq-eqb (split_no page flags set) 0 e)

  pub split_refused : (split_no page flags set ≡ 0 → ⊥) → split_test page flags set ≡ uncounted (split_no page flags set)
  unfolding split_test
  split_refused z = rw (ne_eqb (split_no page flags set) 0 z)

  module _ (e : split_no page flags set ≡ 0) where
    pub split_counts : (split_test page flags set).count ≡ split_count (program page flags) set
    unfolding counted
    split_counts = ap (λ (r : Split). r.count) (accepted e)

    pub split_says : (split_test page flags set).yes ≡ answer (program page flags) set
    unfolding counted
    split_says =
        ap (λ (r : Split). r.yes) (accepted e)
        ∙ same_yes (ltb 0 (split_count (program page flags) set)) (answer (program page flags) set)
        (λ t. (reduct_is_split (program page flags) set).1 (ltb-true 0 (split_count (program page flags) set) (yes_true _ t)))
        (λ t. lt→ltb 0 (split_count (program page flags) set) ((reduct_is_split (program page flags) set).0 t))

    -- the three tests say the same
    pub three_agree : ((split_test page flags set).yes ≡ (reduct_test page flags set).value) × ((split_test page flags set).yes ≡ (here_there_test page flags set).value)
    unfolding reduct_test by_number
    three_agree =
        let r : (split_test page flags set).yes ≡ (reduct_test page flags set).value = split_says ∙ rw (split_test_zero page flags set e) in
        (r, r ∙ ap (λ (v : Verdict). v.value) (reduct_says_here_there page flags set))

  -- the number is given whether or not the test counts
  pub split_gives : (split_test page flags set).no ≡ split_no page flags set
  unfolding counted uncounted
  split_gives = go (ℕ_discrete (split_no page flags set) 0)
    where
      go : Dec (split_no page flags set ≡ 0) → (split_test page flags set).no ≡ split_no page flags set
      go (yes e) = ap (λ (r : Split). r.no) (accepted e) ∙ sym e
      go (no z) = ap (λ (r : Split). r.no) (split_refused z)
