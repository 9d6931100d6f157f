-- In a finite list, over any transitive relation that prefers nothing to itself, each element that is not best has a best one preferred
-- to it; so a list that is not empty has a best one. One pass through the list, taking an element whenever it is preferred to the one
-- in hand, ends at a best one. Assumes nothing.
use mathlib.Core.Path.{◌≡◌, refl, sym, subst}
use mathlib.Core.Bool.{Bool, true, false, not, cond}
use mathlib.Core.Logic.{◌⊎◌, inl, inr, ⊎_elim}
use mathlib.Core.List.Memᴰ
use mathlib.Core.List.{List, [], ◌∷◌, Memᴰ}
use lib.Dec.{T, T_not, not_T}
use Rattle.atoms.proofs.Truth.{true_yes, false_no}
use Rattle.lpod.specs.Best.{none_over, best_of}
use Rattle.lpod.proofs.Lists.{every_at, every_made, keep_in}

module _ {A : Type 0} (over : A → A → Bool) where
  -- none of the list is preferred to x, as it is said
  abbrev pub Unbeaten : List A → A → Type 0
  Unbeaten l x = (y : A) → Memᴰ y l → T (over y x) → ⊥

  pub none_says : (l : List A) (x : A) → T (none_over over l x) → Unbeaten l x
  unfolding none_over
  none_says l x t y m = T_not (over y x) (every_at (λ z. not (over z x)) l t y m)

  pub says_none : (l : List A) (x : A) → Unbeaten l x → T (none_over over l x)
  unfolding none_over
  says_none l x f = every_made (λ z. not (over z x)) l (λ y m. not_T (over y x) (f y m))

  -- from m, through the list: whenever an element is preferred to the one in hand, take it
  abbrev climb : List A → A → A
  climb [] m = m
  climb (x ∷ l) m = climb l (cond (over x m) x m)

  step : (t : Bool) (x m b : A) (l : List A) → Memᴰ b (cond t x m ∷ l) → Memᴰ b (m ∷ x ∷ l)
  step true x m b l i = Memᴰ.tail i
  step false x m b l i = ⊎_elim (λ e. Memᴰ.head e) (λ j. Memᴰ.tail (Memᴰ.tail j)) (Memᴰ.cases_cons i)

  climb_in : (l : List A) (m : A) → Memᴰ (climb l m) (m ∷ l)
  climb_in [] m = Memᴰ.head refl
  climb_in (x ∷ l) m = step (over x m) x m (climb l (cond (over x m) x m)) l (climb_in l (cond (over x m) x m))

  module _ (irr : (x : A) → T (over x x) → ⊥) (tr : (x y z : A) → T (over x y) → T (over y z) → T (over x z)) where
    abbrev Up : A → A → Type 0
    Up b m = (b ≡ m) ⊎ T (over b m)

    up_up : (b x m : A) → Up b x → T (over x m) → Up b m
    up_up b x m (inl e) h = inr (subst (λ (z : A). T (over z m)) (sym e) h)
    up_up b x m (inr k) h = inr (tr b x m k h)

    no_self : (b x : A) → Up b x → T (over x b) → ⊥
    no_self b x (inl e) h = irr x (subst (λ (z : A). T (over x z)) e h)
    no_self b x (inr k) h = irr x (tr x b x h k)

    none_above : (b m x : A) → Up b m → (T (over x m) → ⊥) → T (over x b) → ⊥
    none_above b m x (inl e) n h = n (subst (λ (z : A). T (over x z)) e h)
    none_above b m x (inr k) n h = n (tr x b m h k)

    record Climbed (l : List A) (m b : A) : Type 0 where
      pub up : Up b m
      pub best : Unbeaten l b

    one_more : (x : A) (l : List A) (b : A) → Unbeaten l b → (T (over x b) → ⊥) → Unbeaten (x ∷ l) b
    one_more x l b f n y i h = ⊎_elim (λ e. n (subst (λ (z : A). T (over z b)) e h)) (λ j. f y j h) (Memᴰ.cases_cons i)

    climbed : (l : List A) (m : A) → Climbed l m (climb l m)
    climbed [] m = record { up = inl refl; best = λ y i h. elim i [ ] }
    climbed (x ∷ l) m = go (over x m) refl (climbed l (cond (over x m) x m))
      where
        top : A
        top = climb l (cond (over x m) x m)

        go : (t : Bool) → over x m ≡ t → Climbed l (cond t x m) top → Climbed (x ∷ l) m top
        go true e c = record { up = up_up top x m c.up (true_yes e); best = one_more x l top c.best (no_self top x c.up) }
        go false e c = record { up = c.up; best = one_more x l top c.best (none_above top m x c.up (false_no e)) }

    in_list : (l : List A) (x : A) → Memᴰ x l → Memᴰ (climb l x) l
    in_list l x m = ⊎_elim (λ e. subst (λ (z : A). Memᴰ z l) (sym e) m) (λ n. n) (Memᴰ.cases_cons (climb_in l x))

    pub best_above : (l : List A) (x : A) → Memᴰ x l → (T (none_over over l x) → ⊥) → (b : A) × (Memᴰ b (best_of over l) × T (over b x))
    unfolding best_of
    best_above l x m n =
        let c = climbed l x in
        (climb l x, (keep_in (none_over over l) l (climb l x) (in_list l x m) (says_none l (climb l x) c.best), go c.up c.best))
      where
        go : Up (climb l x) x → Unbeaten l (climb l x) → T (over (climb l x) x)
        go (inl e) f = absurd (n (says_none l x (subst (λ (z : A). Unbeaten l z) e f)))
        go (inr t) f = t

    pub has_best : (l : List A) (x : A) → Memᴰ x l → (b : A) × Memᴰ b (best_of over l)
    unfolding best_of
    has_best l x m = (climb l x, keep_in (none_over over l) l (climb l x) (in_list l x m) (says_none l (climb l x) (climbed l x).best))
