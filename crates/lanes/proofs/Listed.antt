-- What a call that lists sets says, for each of its ways out; and the pick as the first of a list. Assumes nothing.
use Rattle.std.specs.Prelude as rust
use Rattle.std.specs.Prelude.{Some, None, IfSome}
use mathlib.Core.Path.{◌≡◌, refl, sym, ap, ◌∙◌, subst}
use mathlib.Core.Bool.{Bool, false}
use mathlib.Core.List.{List, [], ◌∷◌}
use Prim.Native.Nat.{ℕ, zero, suc, min, ◌/◌, ◌%◌, ◌≤◌, ◌<◌, ◌+◌}
use native.Mathlib.Decide.{dec_le}
use native.Mathlib.Nat.{le_refl}
use native.Mathlib.Omega.{arith}
use Rattle.std.proofs.lemmas.List.{length-replicate}
use lib.Dec.{T, eqb, eqb→eq}
use lib.ListN.{length, get_or, take, replicate}
use lib.Seq.{take_all, length-take-le}
use borrow.Author.Tests.{lt-ltb, le-ltb}
use Rattle.atoms.specs.Atoms.{has}
use Rattle.atoms.proofs.Truth.{and_l, and_r, both}
use Rattle.atoms.proofs.Bits.{has_zero, inside_le, test_inside}
use Rattle.lpod.specs.Lists.{every, keep}
use Rattle.lpod.specs.Best.{first_of}
use Rattle.words.specs.Coded.{program_in}
use Rattle.lanes.specs.Entries.{over}
use Rattle.lanes.specs.Rank.{ranks}
use Rattle.lanes.specs.Seek.{number_of, next_from, all_from}
use Rattle.lanes.specs.Marks.{marked, Within, Blank}
use Rattle.lanes.specs.Sets.{left, FoundSays, wanted, kept, found, Marked}
use Rattle.lanes.specs.declared.sets.Which.{Which}
use Rattle.lanes.specs.declared.sets.Which.TheVariants.{All, Best}
use Rattle.lanes.proofs.Seek.{next_passes, all_first, all_here, all_past}

pub take_min : (n : ℕ) (l : List ℕ) → take (min (length l) n) l ≡ take n l
take_min n l = go (dec_le (length l) n)
  where
    go : Dec (length l ≤ n) → take (min (length l) n) l ≡ take n l
    go (yes h) =
        let e : min (length l) n ≡ length l = omega arith in
        ap (λ (k : ℕ). take k l) e ∙ take_all (length l) l (le_refl (length l)) ∙ sym (take_all n l h)
    go (no h) = let e : min (length l) n ≡ n = omega arith in ap (λ (k : ℕ). take k l) e

module _ (sets out : List ℕ) (c : ℕ) (e : c ≡ length sets) where
  pub found_short : length out < length sets → FoundSays sets out c out
  unfolding left
  found_short h = (e, rw (lt-ltb (length out) (length sets) h))

  pub found_stored : length sets ≤ length out → (after : List ℕ) → after ≡ over sets out → FoundSays sets out c after
  unfolding left
  found_stored h after ea = (e, ea ∙ rw (le-ltb (length out) (length sets) h))

pub found_same : (out : List ℕ) {l m after : List ℕ} {r : ℕ} → l ≡ m → FoundSays l out r after → FoundSays m out r after
found_same out {l} {m} {after} {r} e s = subst (λ (x : List ℕ). FoundSays x out r after) e s

-- the least that passes is the first of all that do
pub first_found : (q : ℕ → Bool) (m : rust.Option ℕ) → IfSome m (λ s. s < 65536) → number_of m ≡ next_from q 0 → found m ≡ first_of (all_from q 0)
unfolding first_of
first_found q None l e = sym (ap first_of (all_first q 0 65536 (omega arith) e ∙ all_past q 65536 (omega arith)))
first_found q (Some m) l e = sym (ap first_of (all_first q 0 m (omega arith) e ∙ all_here q m l (next_passes q 0 m e l)))

-- one answer only
pub found_one : (x y : rust.Option ℕ) → found x ≡ found y → x ≡ y
found_one None None e = refl
found_one None (Some b) e = cc
found_one (Some a) None e = cc
found_one (Some a) (Some b) e = cc

-- ---- from the marks to the lists
pub wanted_kept : (which : Which) {rows pairs : List ℕ} {flags top : ℕ} {marks : List ℕ} → Marked rows pairs flags top marks
    → kept which (keep ranks rows) marks ≡ wanted which (program_in rows pairs flags)
unfolding wanted
wanted_kept All m = m.all
wanted_kept Best m = m.best

-- what a search asks of the marks, and of marks with as many words
module _ {rows pairs : List ℕ} {flags top : ℕ} {marks : List ℕ} (m : Marked rows pairs flags top marks) where
  pub may_search : (after : List ℕ) → length after ≡ length marks → Within after (flags / 64) (top / 64)
      → (length after ≤ 1024) × (flags / 64 < length after) × Within after (flags / 64) (top / 64)
  may_search after e w =
      let l = inside_le (flags / 64) (top / 64) (test_inside (flags / 64) (top / 64) m.start) in
      let k = m.long in
      let s = m.small in
      (omega arith, omega arith, w)

-- words of which none has a bit have no mark
zero_at : (l : List ℕ) → T (every (λ x. eqb x 0) l) → (i : ℕ) → get_or l i 0 ≡ 0
unfolding every
zero_at [] t i = refl
zero_at (x ∷ l) t zero = eqb→eq x 0 (and_l (eqb x 0) (every (λ y. eqb y 0) l) t)
zero_at (x ∷ l) t (suc i) = zero_at l (and_r (eqb x 0) (every (λ y. eqb y 0) l) t) i

every_take : (n : ℕ) (l : List ℕ) → T (every (λ x. eqb x 0) l) → T (every (λ x. eqb x 0) (take n l))
unfolding every
every_take zero l t = tt
every_take (suc n) [] t = tt
every_take (suc n) (x ∷ l) t =
    both (eqb x 0) (every (λ y. eqb y 0) (take n l)) (and_l (eqb x 0) (every (λ y. eqb y 0) l) t) (every_take n l (and_r (eqb x 0) (every (λ y. eqb y 0) l) t))

zeros : (m : ℕ) → T (every (λ x. eqb x 0) (replicate m 0))
unfolding every
zeros zero = tt
zeros (suc m) = zeros m

pub no_marks : (n m s : ℕ) → marked (take n (replicate m 0)) s ≡ false
unfolding marked
no_marks n m s = ap (λ (w : ℕ). has w (s % 64)) (zero_at (take n (replicate m 0)) (every_take n (replicate m 0) (zeros m)) (s / 64)) ∙ has_zero (s % 64)

-- what is lent of most such words: one for each block up to top's
pub lent_words : (top n most : ℕ) → n ≡ top / 64 + 1 → top / 64 < most → (length {A = ℕ} (take n (replicate most 0)) ≤ length {A = ℕ} (replicate most 0)) × Blank (take n (replicate most 0)) top
lent_words top n most e h =
    let z : List ℕ = replicate most 0 in
    let l : n ≤ length z = omega (arith, length-replicate {A = ℕ} most 0) in
    let k = length-take-le n z l in
    (omega (arith, k, l), (k ∙ e, no_marks n most))
