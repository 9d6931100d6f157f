-- An answer whose value is turned into a number for C: what is refused stays, and what is given is turned. Assumes nothing.
use Rattle.std.specs.Prelude.{Result, Ok, Err, ℤ, pos}
use Rattle.std.specs.Result.{result_unwrap_or}
use mathlib.Core.Path.{◌≡◌, refl, ap, ◌∙◌}
use Prim.Native.Nat.{ℕ}
use Rattle.page.specs.Answers.{Answered, answered}
use Rattle.page.specs.declared.refusal.Refusal.{Refusal}
use Rattle.engine.specs.Compare.{side_number, sided}
use Rattle.engine.specs.declared.compare.Side.{Side}
use Rattle.capi.specs.Words.{word, side_value}

abbrev pub word_of : Result ℕ Refusal → ℕ
word_of r = word (answered 0 r).no (answered 0 r).value

-- f makes a number of each value, and 0 of the blank one
module _ {A : Type 0} (blank : A) (f : A → ℕ) (zero : f blank ≡ 0) where
  pub word_mapped : (r : Result A Refusal) (s : Result ℕ Refusal) → ((a : A) → r ≡ Ok a → s ≡ Ok (f a)) → ((e : Refusal) → r ≡ Err e → s ≡ Err e)
      → (d : Answered A) → answered blank r ≡ d → word_of s ≡ word d.no (f d.value)
  word_mapped (Ok a) s p q d e = ap word_of (p a refl) ∙ ap (λ (x : Answered A). word x.no (f x.value)) e
  word_mapped (Err y) s p q d e =
      let turned : word_of (Err y) ≡ word (answered blank (Err y)).no (f blank) = rw zero in
      ap word_of (q y refl) ∙ turned ∙ ap (λ (x : Answered A). word x.no (f x.value)) e

-- a side by its number
side_zero : side_value (pos 0) ≡ 0
unfolding side_value
side_zero = refl

pub side_mapped : (r : Result Side Refusal) (s : Result ℕ Refusal) → ((a : Side) → r ≡ Ok a → s ≡ Ok (side_value (side_number a))) → ((e : Refusal) → r ≡ Err e → s ≡ Err e)
    → (d : Answered ℤ) → answered (pos 0) (sided r) ≡ d → word_of s ≡ word d.no (side_value d.value)
side_mapped (Ok a) s p q d e = ap word_of (p a refl) ∙ ap (λ (x : Answered ℤ). word x.no (side_value x.value)) e
side_mapped (Err y) s p q d e =
    let turned : word_of (Err y) ≡ word (answered (pos 0) (sided (Err y))).no (side_value (pos 0)) = rw side_zero in
    ap word_of (q y refl) ∙ turned ∙ ap (λ (x : Answered ℤ). word x.no (side_value x.value)) e

-- what is taken of an answer, or the blank
pub taken : {A : Type 0} (blank : A) (r : Result A Refusal) → result_unwrap_or r blank ≡ (answered blank r).value
taken blank (Ok a) = refl
taken blank (Err e) = refl
