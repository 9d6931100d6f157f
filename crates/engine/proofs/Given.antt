-- What a call's number says, from its list of refusals; and what an accepted list leaves in the lent slice. Assumes nothing.
use Rattle.std.specs.Prelude.{Result, Ok, Err}
use Rattle.std.specs.Result.{result_unwrap_or}
use Rattle.std.proofs.Common.{length-append}
use mathlib.Core.Path.{◌≡◌, refl, sym, ap, ◌∙◌, subst}
use mathlib.Core.Bool.{cond}
use mathlib.Core.Logic.{◌↔◌}
use mathlib.Core.List.{List, ◌++◌}
use Prim.Native.Nat.{ℕ, ◌≤◌}
use native.Mathlib.Omega.{arith}
use lib.Dec.{T, eqb, ltb}
use lib.ListN.{length, take, drop}
use lib.Seq.{drop_at, take_at}
use borrow.Author.Tests.{ne_eqb}
use Rattle.atoms.proofs.Truth.{both}
use Rattle.lpod.proofs.Lists.{every_append}
use Rattle.page.specs.Refusals.{Refusal, first_that, none_holds, numbered, FirstOf}
use Rattle.page.specs.Answers.{no, Answered, answered, by_number}
use Rattle.page.specs.declared.refusal.Refusal as code
use Rattle.page.proofs.Refusals.{none_given, given_none, first_given, given_first}
use Rattle.lanes.specs.Entries.{over, stored}

-- n is the number of the first refusal of the list that holds, and 0 exactly where none does
pub record Given (l : List Refusal) (n : ℕ) : Type 0 where
  pub accepted : (n ≡ 0) ↔ T (none_holds l)
  pub refused : (k : ℕ) → (k ≡ 0 → ⊥) → (n ≡ k) ↔ FirstOf l k

pub given : (l : List Refusal) (n : ℕ) → T (numbered l) → n ≡ first_that l → Given l n
given l n t e = record {
  accepted = ((λ z. given_none l t (sym e ∙ z)), (λ h. e ∙ none_given l h));
  refused = λ k z. ((λ q. given_first l k z (sym e ∙ q)), (λ f. e ∙ first_given l k f));
}

pub numbered_append : (a b : List Refusal) → T (numbered a) → T (numbered b) → T (numbered (a ++ b))
unfolding numbered
numbered_append a b s t = subst T (sym (every_append (λ r. ltb 0 r.number) a b)) (both (numbered a) (numbered b) s t)

-- entries from the start of a slice: there they stand, and every later entry keeps its content
module _ (xs out after : List ℕ) (e : after ≡ over xs out) where
  pub entries_first : take (length xs) after ≡ xs
  unfolding over
  entries_first = rw e (take_at xs (drop (length xs) out) (length xs) refl)

  pub entries_later : drop (length xs) after ≡ drop (length xs) out
  unfolding over
  entries_later = rw e (drop_at xs (drop (length xs) out) (length xs) refl)

-- where a number refuses or accepts, what is read of it
pub where_refused : {A : Type 0} (n : ℕ) (x y : A) → (n ≡ 0 → ⊥) → cond (eqb n 0) x y ≡ y
where_refused n x y z = rw (ne_eqb n 0 z)

pub where_accepted : {A : Type 0} (n : ℕ) (x y : A) → n ≡ 0 → cond (eqb n 0) x y ≡ x
where_accepted n x y z = rw z

-- ---- what an answer says by its number and its value
module _ {A : Type 0} (blank : A) where
  number_read : (r : Result A code.Refusal) → (answered blank r).no ≡ no r
  number_read (Ok a) = refl
  number_read (Err e) = refl

  -- a refused answer has the blank value
  pub refused_blank : (r : Result A code.Refusal) → (no r ≡ 0 → ⊥) → (answered blank r).value ≡ blank
  refused_blank (Ok a) z = absurd (z refl)
  refused_blank (Err e) z = refl

  module _ (a : A) (n : ℕ) where
    pub number_said : (r : Result A code.Refusal) → answered blank r ≡ by_number blank n a → no r ≡ n
    unfolding by_number
    number_said r e = sym (number_read r) ∙ ap (λ (x : Answered A). x.no) e

    -- an accepted one has this value
    pub accepted_said : (x : A) → answered blank (Ok x) ≡ by_number blank n a → (n ≡ 0) × (x ≡ a)
    unfolding by_number
    accepted_said x e =
        let z : n ≡ 0 = sym (ap (λ (y : Answered A). y.no) e) in
        (z, ap (λ (y : Answered A). y.value) e ∙ where_accepted n a blank z)

-- ---- what a call counts fits in the slice that it was lent: what it stores stands there, and the slice keeps its length
module _ (n : ℕ) (xs out after : List ℕ) where
  over_fits : after ≡ over xs out → length after ≡ length out → length xs ≤ length after
  unfolding over
  over_fits e same = omega (arith, simp length-append at (ap length e))

  pub count_fits : (r : Result ℕ code.Refusal) → answered 0 r ≡ by_number 0 n (length xs) → after ≡ stored n xs out → length after ≡ length out
      → result_unwrap_or r 0 ≤ length after
  unfolding stored
  count_fits (Ok a) e s same =
      let said = accepted_said 0 (length xs) n a e in
      omega (arith, said.1, over_fits (s ∙ where_accepted n (over xs out) out said.0) same)
  count_fits (Err x) e s same = omega arith
