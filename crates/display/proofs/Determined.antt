-- For every public call of display: any two answers that its statement allows are equal. There is no exception. Assumes nothing.
use mathlib.Core.Path.{◌≡◌}
use mathlib.Core.Bool.{Bool}
use mathlib.Core.List.{List}
use Prim.Native.Nat.{ℕ}
use lib.Ieee.{Float, nan}
use Rattle.engine.proofs.Determined.{one_answer}
use Rattle.std.specs.Prelude.{Option, Result}
use Rattle.page.specs.declared.refusal.Refusal.{Refusal}
use Rattle.page.proofs.Refusing.{one_answered}
use Rattle.display.specs.Readings as means
use Rattle.display.specs.Shows.{reading_of, reading_or, DisplaySays}
use Rattle.display.specs.declared.Readings.{Readings}
use Rattle.display.specs.declared.Shown.{Shown}
use Rattle.display.specs.declared.Shown.TheVariants.{NoNumber}

pub display : (r : Readings) (page : List ℕ) (flags : ℕ) (x y : Result Shown Refusal) → DisplaySays r page flags x → DisplaySays r page flags y → x ≡ y
display r page flags x y p q = one_answered NoNumber x y (one_answer p q)

pub reading : (shown : Shown) (x y : Option Float) → x ≡ reading_of shown → y ≡ reading_of shown → x ≡ y
reading shown x y = one_answer

pub reading_of_lem : (shown : Shown) (x y : Float) → x ≡ reading_or nan (reading_of shown) → y ≡ reading_or nan (reading_of shown) → x ≡ y
reading_of_lem shown x y = one_answer

pub not_a_number : (x y : Float) → x ≡ nan → y ≡ nan → x ≡ y
not_a_number x y = one_answer

pub is_finite : (reading : Float) (x y : Bool) → x ≡ means.finite reading → y ≡ means.finite reading → x ≡ y
is_finite reading x y = one_answer

pub bits_of_lem : (reading : Float) (x y : ℕ) → x ≡ means.bits_of reading → y ≡ means.bits_of reading → x ≡ y
bits_of_lem reading x y = one_answer

pub of_bits_lem : (bits : ℕ) (x y : Float) → x ≡ means.of_word bits → y ≡ means.of_word bits → x ≡ y
of_bits_lem bits x y = one_answer
