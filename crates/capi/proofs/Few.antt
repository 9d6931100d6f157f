-- The number of sets listed fits 16 bits: an accepted page has at most 16 atoms, so at most 65,535 answer sets, and its best sets are some of
-- those; a refused call lists none. Assumes nothing.
use mathlib.Core.Path.{◌≡◌, ap}
use mathlib.Core.List.{List, [], ◌∷◌}
use Prim.Native.Nat.{ℕ, ◌≤◌}
use native.Mathlib.Omega.{arith}
use native.Mathlib.Decide.{ℕ_discrete}
use lib.ListN.{length}
use borrow.Author.Tests.{ne_eqb}
use Rattle.lpod.specs.Answer.{answer_sets}
use Rattle.lpod.specs.Preferred.{preferred}
use Rattle.lpod.specs.Best.{none_over, best_of, best_sets}
use Rattle.lpod.proofs.Lists.{keep_length}
use Rattle.lpod.proofs.EmptyAlone.{few_sets}
use Rattle.page.specs.Program.{program}
use Rattle.page.specs.Refusals.{flag_refusals, flag_no}
use Rattle.page.proofs.Refusals.{flag_numbered, given_append}
use Rattle.page.proofs.Accepted.{ranges}
use Rattle.page.proofs.AcceptedAtoms.{flag_page}
use Rattle.page.specs.Answers.{by_number}
use Rattle.engine.specs.Calls.{Listed, list_refusals, list_no, listed}

module _ (sets page : List ℕ) (flags : ℕ) (out : List ℕ) (few : flag_no page flags ≡ 0 → length sets ≤ 65535) where
  count_few : (r : Listed) → r ≡ listed (list_no page flags sets out) sets → r.value ≤ 65535
  unfolding by_number list_no list_refusals flag_no
  count_few r e = go (ℕ_discrete (list_no page flags sets out) 0)
    where
      go : Dec (list_no page flags sets out ≡ 0) → r.value ≤ 65535
      go (yes z) = rw (ap (λ (x : Listed). x.value) e, z) (few (given_append (flag_refusals page flags) (_ ∷ []) (flag_numbered page flags) z).0)
      go (no n) = rw (ap (λ (x : Listed). x.value) e, ne_eqb (list_no page flags sets out) 0 n) (omega arith)

module _ (page : List ℕ) (flags : ℕ) where
  answers_few : flag_no page flags ≡ 0 → length (answer_sets (program page flags)) ≤ 65535
  unfolding program
  answers_few z = few_sets (program page flags) (ranges page (flag_page page flags z)).atoms_most

  bests_few : flag_no page flags ≡ 0 → length (best_sets (program page flags)) ≤ 65535
  unfolding best_sets best_of
  bests_few z =
      let p = program page flags in
      omega (arith, answers_few z, keep_length (none_over (preferred p) (answer_sets p)) (answer_sets p))

  pub list_few : (out : List ℕ) (r : Listed) → r ≡ listed (list_no page flags (answer_sets (program page flags)) out) (answer_sets (program page flags)) → r.value ≤ 65535
  list_few out = count_few (answer_sets (program page flags)) page flags out answers_few

  pub best_few : (out : List ℕ) (r : Listed) → r ≡ listed (list_no page flags (best_sets (program page flags)) out) (best_sets (program page flags)) → r.value ≤ 65535
  best_few out = count_few (best_sets (program page flags)) page flags out bests_few
