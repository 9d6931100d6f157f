-- How a call refuses in the order of its list: an error of the first conditions stands, and where these find none the later ones are asked.
-- Assumes nothing.
use Rattle.std.specs.Prelude.{Result, Ok, Err, IsErrAnd, is_ok}
use mathlib.Core.Path.{◌≡◌, refl, sym, ap, ◌∙◌}
use mathlib.Core.Bool.{true, false, cond, true≢false, false≢true}
use mathlib.Core.List.{List, ◌++◌}
use Prim.Native.Nat.{ℕ, ◌<◌}
use native.Mathlib.Omega.{arith}
use lib.Dec.{T, eqb}
use borrow.Author.Tests.{ne_eqb}
use Rattle.page.specs.Refusals as lists
use Rattle.page.specs.Answers.{number, no, Answered, answered, by_number}
use Rattle.page.specs.declared.refusal.Refusal.{Refusal}
use Rattle.page.specs.declared.refusal.Refusal.TheVariants.{TooShort, OtherForm, CountsOut, Misplaced, BadCounts, AtomsOut, Unsorted, BadPairs, BitsOut, NoAnswerSet, NoRoom, TooManySplits, NotAnAnswerSet, NoOutcome, UnfitReading}
use Rattle.page.proofs.Refusals.{first_append}

-- no refusal has the number 0
pub above_zero : (e : Refusal) → 0 < number e
above_zero TooShort = omega arith
above_zero OtherForm = omega arith
above_zero CountsOut = omega arith
above_zero Misplaced = omega arith
above_zero BadCounts = omega arith
above_zero AtomsOut = omega arith
above_zero Unsorted = omega arith
above_zero BadPairs = omega arith
above_zero BitsOut = omega arith
above_zero NoAnswerSet = omega arith
above_zero NoRoom = omega arith
above_zero TooManySplits = omega arith
above_zero NotAnAnswerSet = omega arith
above_zero NoOutcome = omega arith
above_zero UnfitReading = omega arith

-- what `?` hands on is the error that it was given
pub passed_up : {A : Type 0} (r : Result A Refusal) (e : Refusal) → IsErrAnd r (λ y. y ≡ e) → r ≡ Err e
passed_up (Ok a) e p = absurd p
passed_up (Err y) e p = ap Err p

module _ (l rest : List lists.Refusal) (above : T (lists.numbered l)) where
  -- an error of the first conditions is that of all
  pub first_stands : (e : Refusal) → number e ≡ lists.first_that l → number e ≡ lists.first_that (l ++ rest)
  first_stands e p =
      let z : number e ≡ 0 → ⊥ = λ q. omega (arith, above_zero e, q) in
      sym (first_append l rest above ∙ rw (← p, ne_eqb (number e) 0 z))

  pub error_stands : {A : Type 0} (r : Result A Refusal) (e : Refusal) → IsErrAnd r (λ y. y ≡ e) → number e ≡ lists.first_that l
      → no r ≡ lists.first_that (l ++ rest)
  error_stands r e p q = rw (passed_up r e p) (first_stands e q)

  -- where they find none the others are asked
  pub then_rest : (n : ℕ) → 0 ≡ lists.first_that l → n ≡ lists.first_that rest → n ≡ lists.first_that (l ++ rest)
  then_rest n p q = q ∙ sym (first_append l rest above ∙ rw (← p))

-- ---- an answer is accepted exactly where its number is 0
pub ok_number : {A : Type 0} (r : Result A Refusal) → is_ok r ≡ true → eqb (no r) 0 ≡ true
ok_number (Ok a) e = refl
ok_number (Err y) e = absurd (false≢true e)

pub err_number : {A : Type 0} (r : Result A Refusal) → is_ok r ≡ false → eqb (no r) 0 ≡ false
err_number (Ok a) e = absurd (true≢false e)
err_number (Err y) e = ne_eqb (number y) 0 (λ q. omega (arith, above_zero y, q))

-- ---- an answer by its number and its value: refused by what was asked first, refused here, given
module _ {A : Type 0} (blank a : A) (n : ℕ) where
  pub refused_here : (e : Refusal) → number e ≡ n → answered blank (Err e) ≡ by_number blank n a
  unfolding by_number
  refused_here e p =
      let z : number e ≡ 0 → ⊥ = λ q. omega (arith, above_zero e, q) in
      rw (← p, ne_eqb (number e) 0 z)

  pub refused_before : (r : Result A Refusal) (e : Refusal) → IsErrAnd r (λ y. y ≡ e) → number e ≡ n → answered blank r ≡ by_number blank n a
  refused_before r e p q = rw (passed_up r e p) (refused_here e q)

  pub given : 0 ≡ n → (x : A) → x ≡ a → answered blank (Ok x) ≡ by_number blank n a
  unfolding by_number
  given z x ex = rw (← z, ex)

-- ---- the number and the value settle the answer
abbrev of_number : ℕ → Refusal
of_number n =
    cond (eqb n 1) TooShort (cond (eqb n 2) OtherForm (cond (eqb n 3) CountsOut (cond (eqb n 4) Misplaced (
    cond (eqb n 5) BadCounts (cond (eqb n 6) AtomsOut (cond (eqb n 7) Unsorted (cond (eqb n 8) BadPairs (
    cond (eqb n 9) BitsOut (cond (eqb n 10) NoAnswerSet (cond (eqb n 11) NoRoom (cond (eqb n 12) TooManySplits (
    cond (eqb n 13) NotAnAnswerSet (cond (eqb n 14) NoOutcome (UnfitReading))))))))))))))

number_back : (e : Refusal) → of_number (number e) ≡ e
number_back TooShort = refl
number_back OtherForm = refl
number_back CountsOut = refl
number_back Misplaced = refl
number_back BadCounts = refl
number_back AtomsOut = refl
number_back Unsorted = refl
number_back BadPairs = refl
number_back BitsOut = refl
number_back NoAnswerSet = refl
number_back NoRoom = refl
number_back TooManySplits = refl
number_back NotAnAnswerSet = refl
number_back NoOutcome = refl
number_back UnfitReading = refl

pub one_refusal : (e f : Refusal) → number e ≡ number f → e ≡ f
one_refusal e f p = sym (number_back e) ∙ ap of_number p ∙ number_back f

pub one_answered : {A : Type 0} (blank : A) (r q : Result A Refusal) → answered blank r ≡ answered blank q → r ≡ q
one_answered blank (Ok a) (Ok b) p = ap Ok (ap (λ (x : Answered _). x.value) p)
one_answered blank (Ok a) (Err f) p = absurd (omega (arith, above_zero f, ap (λ (x : Answered _). x.no) p))
one_answered blank (Err e) (Ok b) p = absurd (omega (arith, above_zero e, ap (λ (x : Answered _). x.no) p))
one_answered blank (Err e) (Err f) p = ap Err (one_refusal e f (ap (λ (x : Answered _). x.no) p))
