-- The display's two conditions in words: 14 holds where there are fewer than four atoms or the set has no one outcome; 15 where the reading is infinite
-- or not a number. By cases. Assumes nothing.
use mathlib.Core.Path.{◌≡◌, refl, sym, ◌∙◌}
use mathlib.Core.Bool.{Bool, true, false, ◌||◌, not, true≢false}
use mathlib.Core.Logic.{◌⊎◌, inl, inr}
use Rattle.std.specs.Prelude.{Option, Some, None}
use Prim.Native.Nat.{ℕ, ◌≤◌, ◌<◌}
use lib.Dec.{ltb}
use lib.Ieee.{Float, nan, inf, fin}
use borrow.Author.Tests.{lt-ltb, le-ltb, ltb-true}
use Rattle.display.specs.Readings.{finite}
use Rattle.display.specs.Shows.{outcomes, one_chosen, first_of, reading_of, lacks_outcome, fit, unfit}
use Rattle.display.specs.declared.Shown.{Shown}
use Rattle.display.proofs.OneOutcome.{OnlyOutcome, one_is_only, only_is_one}

-- infinite or not a number
abbrev pub NotFinite : Float → Type 0
NotFinite x = (x ≡ nan) ⊎ ((s : Bool) × (x ≡ inf s))

-- ---- what the two conditions mean, in words
module _ (atoms set : ℕ) where
  pub lack_says : lacks_outcome atoms set ≡ true → (atoms < 4) ⊎ ((a : ℕ) → OnlyOutcome set a → ⊥)
  unfolding lacks_outcome
  lack_says t = go (ltb atoms 4) refl (one_chosen set) refl t
    where
      go : (b : Bool) → ltb atoms 4 ≡ b → (c : Bool) → one_chosen set ≡ c → (b || not c) ≡ true → (atoms < 4) ⊎ ((a : ℕ) → OnlyOutcome set a → ⊥)
      go true e c f t = inl (ltb-true atoms 4 e)
      go false e true f t = absurd (true≢false (sym t))
      go false e false f t = inr (λ a o. true≢false (sym (only_is_one set a o) ∙ f))

  pub says_lack : (atoms < 4) ⊎ ((a : ℕ) → OnlyOutcome set a → ⊥) → lacks_outcome atoms set ≡ true
  unfolding lacks_outcome
  says_lack (inl l) = rw (lt-ltb atoms 4 l)
  says_lack (inr n) = go (ltb atoms 4) (one_chosen set) refl
    where
      go : (b c : Bool) → one_chosen set ≡ c → (b || not c) ≡ true
      go true c f = refl
      go false true f = absurd (n (first_of (outcomes set)) (one_is_only set f))
      go false false f = refl

  pub no_lack : 4 ≤ atoms → (a : ℕ) → OnlyOutcome set a → lacks_outcome atoms set ≡ false
  unfolding lacks_outcome
  no_lack l a o = rw (le-ltb atoms 4 l, only_is_one set a o)

  pub chosen_one : lacks_outcome atoms set ≡ false → OnlyOutcome set (first_of (outcomes set))
  unfolding lacks_outcome
  chosen_one e = one_is_only set (go (ltb atoms 4) (one_chosen set) e)
    where
      go : (b c : Bool) → (b || not c) ≡ false → c ≡ true
      go true c e = absurd (true≢false e)
      go false true e = refl
      go false false e = absurd (true≢false e)

-- an outcome that is the only one is the first
pub only_first : (set a : ℕ) → OnlyOutcome set a → first_of (outcomes set) ≡ a
only_first set a o = let f = one_is_only set (only_is_one set a o) in o.alone (first_of (outcomes set)) f.outcome f.held

pub unfit_says : (s : Shown) → unfit s ≡ true → (x : Float) × ((reading_of s ≡ Some x) × NotFinite x)
unfolding unfit fit finite
unfit_says s t = go (reading_of s) refl t
  where
    bad : (x : Float) → not (finite x) ≡ true → NotFinite x
    bad nan e = inl refl
    bad (inf s) e = inr (s, refl)
    bad (fin s m e) f = absurd (true≢false (sym f))

    go : (o : Option Float) → reading_of s ≡ o → not (fit o) ≡ true → (x : Float) × ((reading_of s ≡ Some x) × NotFinite x)
    go None e t = absurd (true≢false (sym t))
    go (Some x) e t = (x, (e, bad x t))

pub says_unfit : (s : Shown) (x : Float) → reading_of s ≡ Some x → NotFinite x → unfit s ≡ true
unfolding unfit fit finite
says_unfit s x e (inl f) = rw (e, f)
says_unfit s x e (inr f) = rw (e, f.1)
