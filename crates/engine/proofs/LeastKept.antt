-- What a pass over the rules keeps: the least degree that some rule has in one of two sets alone, and in which of the two. A rule with the
-- same degree in both changes nothing; one with different degrees adds each of them that is not 0. Assumes nothing.
use Rattle.std.specs.Prelude.{Option, Some, None}
use Rattle.std.specs.Option.{IfSome, MatchOption}
use mathlib.Core.Path.{◌≡◌, refl, sym, ap, ◌∙◌}
use mathlib.Core.Bool.{Bool, true, false, ◌&&◌, ◌||◌, not, cond, or-false, or_assoc}
use mathlib.Core.Logic.{◌⊎◌, inl, inr, ⊎_elim}
use mathlib.Core.List.{List, [], ◌∷◌, map}
use Prim.Native.Nat.{ℕ, ◌+◌, ◌≤◌, ◌<◌}
use native.Mathlib.Omega.{arith}
use lib.Dec.{T, eqb, ltb, eqb→eq}
use lib.ListN.{length, get_or, drop}
use borrow.Author.Tests.{ltb-true, ltb-false, eqb-true, eqb-false, ne_eqb, eq-eqb}
use Rattle.lpod.specs.Lists.{some}
use Rattle.lpod.specs.Rule.{Rule}
use Rattle.lpod.specs.Degree.{degree}
use Rattle.words.specs.Coded.{rule_in}
use Rattle.words.proofs.Rest.{rest_step, rest_none}
use Rattle.engine.specs.Rank.{added, noted, seen, rows_seen}
use Rattle.engine.specs.declared.rank.Difference.{Difference}

-- ---- one set's side: at which degrees some rule has that degree in this set alone
-- a degree that is still open: none was found, or only larger ones
abbrev pub Open : ℕ → ℕ → Type 0
Open k j = (k ≡ 0) ⊎ (j < k)

-- k is the least degree found on either side; `flag` tells whether it was found on this one
pub record Side (at : ℕ → Bool) (k : ℕ) (flag : Bool) : Type 0 where
  pub below : (j : ℕ) → 1 ≤ j → Open k j → at j ≡ false
  pub here : 1 ≤ k → at k ≡ flag
  pub none : k ≡ 0 → flag ≡ false

-- degree d besides, if f says so
adds : (ℕ → Bool) → ℕ → Bool → ℕ → Bool
adds at d f j = at j || (eqb d j && f)

module _ (at : ℕ → Bool) (d : ℕ) (f : Bool) where
  adds_other : (j : ℕ) → (d ≡ j → ⊥) → adds at d f j ≡ at j
  unfolding adds
  adds_other j n = rw (ne_eqb d j n) (or-false (at j))

  adds_here : (j : ℕ) → d ≡ j → adds at d f j ≡ (at j || f)
  unfolding adds
  adds_here j e = rw (eq-eqb d j e)

  module _ (k : ℕ) (flag : Bool) (s : Side at k flag) where
    -- d is below all that was found; it was found before; a smaller one was
    side_least : 1 ≤ d → Open k d → Side (adds at d f) d f
    side_least l o = record {
      below = λ j i u. let h : j < d = ⊎_elim (λ e. absurd (omega arith)) (λ h. h) u in
          adds_other j (λ e. omega arith) ∙ s.below j i (⊎_elim (λ e. inl e) (λ g. inr (omega arith)) o);
      here = λ i. adds_here d refl ∙ rw (s.below d i o);
      none = λ e. absurd (omega arith);
    }

    side_same : 1 ≤ k → d ≡ k → Side (adds at d f) d (flag || f)
    side_same l e = record {
      below = λ j i u. let h : j < d = ⊎_elim (λ z. absurd (omega arith)) (λ h. h) u in adds_other j (λ z. omega arith) ∙ s.below j i (inr (omega arith));
      here = λ i. adds_here d refl ∙ ap (λ (b : Bool). b || f) (ap at e ∙ s.here l);
      none = λ z. absurd (omega arith);
    }

    side_later : (d ≡ 0) ⊎ ((1 ≤ k) × (k < d)) → Side (adds at d f) k flag
    side_later o = record {
      below = λ j i u. adds_other j (λ e. ⊎_elim (λ z. omega arith) (λ w. ⊎_elim (λ z. omega (arith, w.0)) (λ h. omega (arith, w.1)) u) o) ∙ s.below j i u;
      here = λ i. adds_other k (λ e. ⊎_elim (λ z. omega arith) (λ w. omega (arith, w.1)) o) ∙ s.here i;
      none = s.none;
    }

-- the same degrees, told otherwise
side_told : (at to : ℕ → Bool) (k : ℕ) (flag : Bool) → ((j : ℕ) → at j ≡ to j) → Side at k flag → Side to k flag
side_told at to k flag e s = record {
  below = λ j i u. sym (e j) ∙ s.below j i u;
  here = λ i. sym (e k) ∙ s.here i;
  none = s.none;
}

-- ---- both sides: what was found, which is at a degree of 1 or more; nothing found is written 0
abbrev pub degree_of : Option Difference → ℕ
degree_of None = 0
degree_of (Some f) = f.degree

abbrev pub in_first : Option Difference → Bool
in_first None = false
in_first (Some f) = f.first

abbrev pub in_second : Option Difference → Bool
in_second None = false
in_second (Some f) = f.second

-- as code asks for it
pub some_and : (f : Option Difference) (b : Bool) → MatchOption f (b ≡ false) (λ x. b ≡ (x.first && not x.second)) → b ≡ (in_first f && not (in_second f))
some_and None b e = e
some_and (Some f) b e = e

pub record Kept (up down : ℕ → Bool) (f : Option Difference) : Type 0 where
  pub one : Side up (degree_of f) (in_first f)
  pub other : Side down (degree_of f) (in_second f)
  pub found : 1 ≤ degree_of f → T (in_first f || in_second f)
  pub from_one : IfSome f (λ d. 1 ≤ d.degree)

pub kept_told : (up down up' down' : ℕ → Bool) (f : Option Difference) → ((j : ℕ) → up j ≡ up' j) → ((j : ℕ) → down j ≡ down' j) → Kept up down f → Kept up' down' f
kept_told up down up' down' f eu ed k = record {
  one = side_told up up' (degree_of f) (in_first f) eu k.one;
  other = side_told down down' (degree_of f) (in_second f) ed k.other;
  found = k.found;
  from_one = k.from_one;
}

module _ (up down : ℕ → Bool) (d : ℕ) (first : Bool) where
  either : (b : Bool) → T (b || not b)
  either true = tt
  either false = tt

  more : (a b c d : Bool) → T (a || b) → T ((a || c) || (b || d))
  more true b c d t = tt
  more false true true d t = tt
  more false true false d t = tt
  more false false c d t = absurd t

  Keeps : Option Difference → Type 0
  Keeps g = Kept (adds up d first) (adds down d (not first)) g

  stays : (f : Option Difference) → Kept up down f → (d ≡ 0) ⊎ ((1 ≤ degree_of f) × (degree_of f < d)) → Keeps f
  unfolding Keeps
  stays f k o = record {
    one = side_later up d first (degree_of f) (in_first f) k.one o;
    other = side_later down d (not first) (degree_of f) (in_second f) k.other o;
    found = k.found;
    from_one = k.from_one;
  }

  is_least : (f : Option Difference) → Kept up down f → 1 ≤ d → Open (degree_of f) d → Keeps (Some (record { degree = d; first = first; second = not first }))
  unfolding Keeps
  is_least f k l o = record {
    one = side_least up d first (degree_of f) (in_first f) k.one l o;
    other = side_least down d (not first) (degree_of f) (in_second f) k.other l o;
    found = λ i. either first;
    from_one = l;
  }

  added_keeps : (f : Option Difference) → Kept up down f → 1 ≤ d → Keeps (Some (added f d first))
  unfolding added Keeps
  added_keeps None k l = is_least None k l (inl refl)
  added_keeps (Some f) k l = go (ltb f.degree d) (eqb f.degree d) refl refl
    where
      go : (a b : Bool) → ltb f.degree d ≡ a → eqb f.degree d ≡ b
          → Keeps (Some (cond a f (cond b (record { degree = d; first = f.first || first; second = f.second || not first })
          (record { degree = d; first = first; second = not first }))))
      go true b ea eb = stays (Some f) k (inr (k.from_one, ltb-true f.degree d ea))
      go false true ea eb =
          let e : d ≡ f.degree = sym (eqb-true f.degree d eb) in
          record {
            one = side_same up d first f.degree f.first k.one k.from_one e;
            other = side_same down d (not first) f.degree f.second k.other k.from_one e;
            found = λ i. more f.first f.second first (not first) (k.found k.from_one);
            from_one = l;
          }
      go false false ea eb = is_least (Some f) k l (inr (omega (arith, ltb-false f.degree d ea, eqb-false f.degree d eb)))

  noted_keeps : (f : Option Difference) → Kept up down f → Keeps (noted f d first)
  unfolding noted Keeps
  noted_keeps f k = go (eqb d 0) refl
    where
      go : (a : Bool) → eqb d 0 ≡ a → Keeps (cond a f (Some (added f d first)))
      go true e = stays f k (inl (eqb-true d 0 e))
      go false e = added_keeps f k (omega (arith, eqb-false d 0 e))

-- ---- a row, with its degrees d and e in the two sets
module _ (up down : ℕ → Bool) (f : Option Difference) (k : Kept up down f) (d e : ℕ) where
  -- a degree is the row's in one set alone just where its two degrees differ
  apart : (a u x y : Bool) → (T x → T y → ⊥) → ((u || (x && a)) || (y && not a)) ≡ (u || (cond a x y && not (cond a y x)))
  apart true true x y n = refl
  apart true false true true n = absurd (n tt tt)
  apart true false true false n = refl
  apart true false false true n = refl
  apart true false false false n = refl
  apart false true true y n = refl
  apart false true false y n = refl
  apart false false true true n = absurd (n tt tt)
  apart false false true false n = refl
  apart false false false true n = refl
  apart false false false false n = refl

  alike : (u x : Bool) → u ≡ (u || (x && not x))
  alike true x = refl
  alike false true = refl
  alike false false = refl

  seen_keeps : Kept (λ j. up j || (eqb d j && not (eqb e j))) (λ j. down j || (eqb e j && not (eqb d j))) (seen f d e)
  unfolding seen adds Keeps
  seen_keeps = go (eqb d e) refl
    where
      go : (b : Bool) → eqb d e ≡ b
          → Kept (λ j. up j || (eqb d j && not (eqb e j))) (λ j. down j || (eqb e j && not (eqb d j))) (cond b f (noted (noted f d true) e false))
      go true q =
          let z = eqb-true d e q in
          kept_told up down _ _ f (λ j. rw z (alike (up j) (eqb e j))) (λ j. rw z (alike (down j) (eqb e j))) k
      go false q =
          let n : (j : ℕ) → T (eqb d j) → T (eqb e j) → ⊥ = λ j s t. eqb-false d e q (eqb→eq d j s ∙ sym (eqb→eq e j t)) in
          kept_told _ _ _ _ (noted (noted f d true) e false) (λ j. apart true (up j) (eqb d j) (eqb e j) (n j)) (λ j. apart false (down j) (eqb d j) (eqb e j) (n j))
          (noted_keeps (adds up d true) (adds down d false) e false (noted f d true) (noted_keeps up down d true f k))

-- ---- all rows
-- some rule has degree j in M and not in N
unfoldable pub alone : List Rule → ℕ → ℕ → ℕ → Bool
alone P M N j = some (λ r. eqb (degree M r) j && not (eqb (degree N r) j)) P

pub rows_keep : (P : List Rule) (M N : ℕ) (up down : ℕ → Bool) (f : Option Difference) → Kept up down f
    → Kept (λ j. up j || alone P M N j) (λ j. down j || alone P N M j) (rows_seen f P M N)
unfolding rows_seen alone some
rows_keep [] M N up down f k = kept_told up down _ _ f (λ j. sym (or-false (up j))) (λ j. sym (or-false (down j))) k
rows_keep (r ∷ P) M N up down f k =
    kept_told _ _ _ _ (rows_seen f (r ∷ P) M N) (λ j. or_assoc (up j) _ _) (λ j. or_assoc (down j) _ _)
    (rows_keep P M N _ _ (seen f (degree M r) (degree N r)) (seen_keeps up down f k (degree M r) (degree N r)))

-- as code goes through them, in words: one row, and the rest; and no row
module _ (words : List ℕ) (n M N : ℕ) (f : Option Difference) where
  pub rows_next : n < length words → rows_seen f (map rule_in (drop n words)) M N
      ≡ rows_seen (seen f (degree M (rule_in (get_or words n 0))) (degree N (rule_in (get_or words n 0)))) (map rule_in (drop (n + 1) words)) M N
  unfolding rows_seen
  rows_next h = rw (rest_step rule_in words n h _ refl)

  pub rows_past : length words ≤ n → rows_seen f (map rule_in (drop n words)) M N ≡ f
  unfolding rows_seen
  rows_past h = rw (rest_none rule_in words n h)
