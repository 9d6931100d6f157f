-- A list of words gone through from its start: what f makes of the words from n on is what it makes of word n, and then of the rest. Assumes nothing.
use mathlib.Core.Path.{◌≡◌, ap, ◌∙◌}
use mathlib.Core.List.{List, [], ◌∷◌, map}
use Prim.Native.Nat.{ℕ, ◌+◌, ◌≤◌, ◌<◌}
use native.Mathlib.Numerals.{add-one}
use lib.ListN.{length, get_or, drop, drop_of_length-le}
use lib.Seq.{drop-cons}

module _ {A : Type 0} (f : ℕ → A) (words : List ℕ) (n : ℕ) where
  pub rest_step : n < length words → (w : ℕ) → w ≡ get_or words n 0 → map f (drop n words) ≡ f w ∷ map f (drop (n + 1) words)
  rest_step l w e = ap (map f) (drop-cons words n 0 l) ∙ rw (e, add-one)

  pub rest_none : length words ≤ n → map f (drop n words) ≡ []
  rest_none l = ap (map f) (drop_of_length-le words l)
