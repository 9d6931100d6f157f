-- The statement of the pick, for each of its ways out. There is no pick exactly where there is no answer set: this is the one place that needs the
-- theorem that answer sets have a best one among them. Assumes nothing.
use Rattle.std.specs.Prelude.{Result, Ok, Err, Some, None, IsErrAnd}
use Rattle.std.specs.Prelude as rust
use Rattle.std.specs.Option.{ok_or}
use mathlib.Core.Path.{◌≡◌, refl, sym, ap, ◌∙◌}
use mathlib.Core.Bool.{Bool, true, false, cond}
use mathlib.Core.List.{List, [], ◌∷◌, Memᴰ}
use mathlib.Core.Option.{some, none}
use Prim.Native.Nat.{ℕ}
use Rattle.atoms.proofs.Truth.{and_l}
use Rattle.lpod.specs.Rule.{Program}
use Rattle.lpod.specs.Answer.{answer, answer_sets}
use Rattle.lpod.specs.Preferred.{preferred}
use Rattle.lpod.specs.Best.{none_over, best, pick}
use Rattle.lpod.proofs.ListsExact.{answers_exact}
use Rattle.lpod.proofs.PickIsBest.{no_pick, pick_lowest}
use Rattle.page.specs.Program.{program}
use Rattle.page.specs.Refusals.{refuse, first_that, flag_refusals, flag_no}
use Rattle.page.specs.Answers.{number}
use Rattle.page.specs.declared.refusal.Refusal.{Refusal}
use Rattle.page.specs.declared.refusal.Refusal.TheVariants.{NoAnswerSet}
use Rattle.page.proofs.Refusals.{flag_numbered}
use Rattle.page.proofs.Refusing.{first_stands, then_rest, refused_before, refused_here, given}
use Rattle.lanes.specs.Sets.{found}
use Rattle.engine.specs.Calls.{is_empty, pick_refusals, pick_no, set_or, PickSays}

-- ---- a list with an element, and one with none
filled : (l : List ℕ) (x : ℕ) → Memᴰ x l → is_empty l ≡ false
unfolding is_empty
filled [] x m = elim m [ ]
filled (y ∷ l) x m = refl

empty : (l : List ℕ) → ((x : ℕ) → Memᴰ x l → ⊥) → is_empty l ≡ true
unfolding is_empty
empty [] f = refl
empty (y ∷ l) f = absurd (f y (Memᴰ.head refl))

-- ---- no pick exactly where there is no answer set
module _ (p : Program) where
  some_set : (s : ℕ) → pick p ≡ some s → is_empty (answer_sets p) ≡ false
  unfolding best
  some_set s e =
      let b = pick_lowest p s e in
      filled (answer_sets p) s ((answers_exact p s).1 (b.0, and_l (answer p s) (none_over (preferred p) (answer_sets p) s) b.1))

  no_set : pick p ≡ none → is_empty (answer_sets p) ≡ true
  no_set e = empty (answer_sets p) (λ s m. let a = (answers_exact p s).0 m in (no_pick p).0 e s a.0 a.1)

-- ---- the ways out of the call
module _ (page : List ℕ) (flags : ℕ) where
  empty_page : Bool
  empty_page = is_empty (answer_sets (program page flags))

  pub pick_refused : (r : Result ℕ Refusal) (e : Refusal) → IsErrAnd r (λ y. y ≡ e) → number e ≡ flag_no page flags → PickSays page flags r
  unfolding pick_no pick_refusals flag_no empty_page
  pick_refused r e p q =
      refused_before 0 _ (pick_no page flags) r e p (first_stands (flag_refusals page flags) (refuse 10 empty_page ∷ []) (flag_numbered page flags) e q)

  -- else what is found for the page's program settles the answer
  module _ (z : 0 ≡ flag_no page flags) where
    from_last : cond empty_page 10 0 ≡ pick_no page flags
    unfolding pick_no pick_refusals flag_no empty_page first_that
    from_last = then_rest (flag_refusals page flags) (refuse 10 empty_page ∷ []) (flag_numbered page flags) (cond empty_page 10 0) z refl

    pub pick_found : (o : rust.Option ℕ) → found o ≡ pick (program page flags) → PickSays page flags (ok_or o NoAnswerSet)
    unfolding set_or empty_page
    pick_found None e =
        refused_here 0 _ (pick_no page flags) NoAnswerSet (ap (λ (b : Bool). cond b 10 0) (sym (no_set (program page flags) (sym e))) ∙ from_last)
    pick_found (Some s) e =
        given 0 _ (pick_no page flags) (ap (λ (b : Bool). cond b 10 0) (sym (some_set (program page flags) s (sym e))) ∙ from_last) s (ap (set_or 0) e)
