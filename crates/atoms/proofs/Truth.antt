-- The laws of yes and no: what `T` of a conjunction, a disjunction or a denial says. By cases. Assumes nothing.
use mathlib.Core.Path.{◌≡◌, refl, sym, subst}
use mathlib.Core.Bool.{Bool, true, false, ◌&&◌, ◌||◌, not}
use mathlib.Core.Logic.{◌⊎◌, inl, inr}
use lib.Dec.{T}

pub or_l : (a b : Bool) → T a → T (a || b)
or_l true b t = tt
or_l false b t = absurd t

pub or_r : (a b : Bool) → T b → T (a || b)
or_r true b t = tt
or_r false b t = t

pub or_cases : (a b : Bool) → T (a || b) → T a ⊎ T b
or_cases true b t = inl tt
or_cases false b t = inr t

pub and_l : (a b : Bool) → T (a && b) → T a
and_l true b t = tt
and_l false b t = t

pub and_r : (a b : Bool) → T (a && b) → T b
and_r true b t = t
and_r false b t = absurd t

pub both : (a b : Bool) → T a → T b → T (a && b)
both true b s t = t
both false b s t = s

pub not_both : (a b : Bool) → T (not (a && b)) → T a → T b → ⊥
not_both true true h x y = h
not_both true false h x y = y
not_both false b h x y = x

pub not_from : (a b : Bool) → (T a → T b → ⊥) → T (not (a && b))
not_from true true f = f tt tt
not_from true false f = tt
not_from false b f = tt

-- `not a || b` is "a implies b"
pub imp : (a b : Bool) → (T a → T b) → T (not a || b)
imp true b f = f tt
imp false b f = tt

pub imp_at : (a b : Bool) → T (not a || b) → T a → T b
imp_at true b t u = t
imp_at false b t u = absurd u

-- yes and no, from the flag and back
pub yes_true : (a : Bool) → T a → a ≡ true
yes_true true t = refl
yes_true false t = absurd t

pub no_false : (a : Bool) → (T a → ⊥) → a ≡ false
no_false true f = absurd (f tt)
no_false false f = refl

pub true_yes : {a : Bool} → a ≡ true → T a
true_yes e = subst T (sym e) tt

pub false_no : {a : Bool} → a ≡ false → T a → ⊥
false_no e t = subst T e t

-- two tests that say yes of each other are one
pub same_yes : (a b : Bool) → (T a → T b) → (T b → T a) → a ≡ b
same_yes true true f g = refl
same_yes true false f g = absurd (f tt)
same_yes false true f g = absurd (g tt)
same_yes false false f g = refl
