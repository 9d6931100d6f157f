-- For H inside T the head of the here-and-there reading is the derived operator of 001 (13). By induction on the head. Assumes nothing.
use mathlib.Core.Path.{◌≡◌, refl}
use mathlib.Core.Bool.{Bool, true, false, ◌&&◌, ◌||◌, not, cond}
use mathlib.Core.List.{List, [], ◌∷◌}
use Prim.Native.Nat.{ℕ}
use lib.Dec.{T}
use Rattle.atoms.specs.Atoms.{has, Inside}
use Rattle.lpod.specs.HereThere.{head_holds, ordered}

pub head_is_ordered : (cs : List ℕ) (H I : ℕ) → Inside H I → head_holds cs H I ≡ ordered cs H I
unfolding head_holds ordered
head_is_ordered [] H I f = refl
head_is_ordered (c ∷ cs) H I f = go (has H c) (has I c) (f c) (head_is_ordered cs H I f)
  where
    go : (a b : Bool) → (T a → T b) → head_holds cs H I ≡ ordered cs H I → cond b a (head_holds cs H I) ≡ (a || (not b && ordered cs H I))
    go true true g e = refl
    go true false g e = absurd (g tt)
    go false true g e = refl
    go false false g e = e
