-- One step of each walk over a page's bytes: what stands first, and what is left. By unfolding the definitions once. Assumes nothing.
use mathlib.Core.Path.{◌≡◌, refl, ap, ◌∙◌}
use mathlib.Core.Bool.{Bool, true, false, ◌&&◌, not}
use mathlib.Core.List.{List, [], ◌∷◌}
use Prim.Native.Nat.{ℕ, zero, suc, ◌+◌, ◌≤◌, ◌<◌}
use native.Mathlib.Omega.{arith}
use native.Mathlib.Numerals.{add-one}
use lib.Dec.{ltb}
use lib.ListN.{length, get_or-eq_default}
use borrow.Author.Tests.{lt-ltb, le-ltb}
use Rattle.lpod.specs.Lists.{every, numbers}
use Rattle.lpod.specs.Rule.{Pair}
use Rattle.page.specs.Fields.{byte_at, literals_of}
use Rattle.page.specs.Program.{literals, rule_at, rows_from, pairs_from, literal_place}
use Rattle.page.specs.Refusals.{is_below, bodies_rise, rises, rises_above, in_order, apart, all_apart, firsts}
use Rattle.page.specs.Rows.{rule_of}
use Rattle.page.specs.Scan.{spaced, pairs_hold}
use Rattle.page.specs.declared.rows.Row.{Row}

-- ---- the first of a run, and the rest of it
module _ (i n m : ℕ) (e : n ≡ m + 1) where
  pub numbers_step : numbers i n ≡ i ∷ numbers (i + 1) m
  unfolding numbers
  numbers_step = rw (e, add-one m, add-one i) refl

module _ (page : List ℕ) (i n m : ℕ) (e : n ≡ m + 1) where
  pub literals_step : (j : ℕ) → j ≡ i + 1 → (x : ℕ) → x ≡ byte_at page i → literals page i n ≡ x ∷ literals page j m
  unfolding literals
  literals_step j ej x ex = rw (e, ej, add-one m, ex) refl

  pub rows_step : (r k : ℕ) → k ≡ literals_of page r → rows_from page r i n ≡ rule_at page r i ∷ rows_from page (r + 1) (i + k) m
  unfolding rows_from
  rows_step r k ek = rw (e, add-one m, ek) refl

  pub pairs_step : (j : ℕ) → j ≡ i + 2 → (x y : ℕ) → x ≡ byte_at page i → y ≡ byte_at page (i + 1)
      → pairs_from page i n ≡ record { one = x; other = y } ∷ pairs_from page j m
  unfolding pairs_from
  pairs_step j ej x y ex ey = rw (e, ej, add-one m, ex, ey) refl

-- ---- a run of none
pub numbers_none : (i n : ℕ) → n ≡ 0 → numbers i n ≡ []
unfolding numbers
numbers_none i n e = rw e

module _ (page : List ℕ) (i n : ℕ) (e : n ≡ 0) where
  pub literals_none : literals page i n ≡ []
  unfolding literals
  literals_none = rw e

  pub rows_none : (r : ℕ) → rows_from page r i n ≡ []
  unfolding rows_from
  rows_none r = rw e

  pub pairs_none : pairs_from page i n ≡ []
  unfolding pairs_from
  pairs_none = rw e

-- ---- every one of a list passes, or one does not
module _ {A : Type 0} (p : A → Bool) (l rest : List A) (x : A) (s : l ≡ x ∷ rest) where
  pub every_go : p x ≡ true → every p l ≡ every p rest
  unfolding every
  every_go t = ap (every p) s ∙ rw t

  pub every_stop : p x ≡ false → every p l ≡ false
  unfolding every
  every_stop t = ap (every p) s ∙ rw t

  -- the same where code goes on past one that does not pass: b is the answer for those before x, c the answer for x
  pub every_both : (b c : Bool) → c ≡ p x → (b && every p l) ≡ ((b && c) && every p rest)
  unfolding every
  every_both true c e = ap (every p) s ∙ rw e
  every_both false c e = refl

pub every_none : {A : Type 0} (p : A → Bool) (l : List A) → l ≡ [] → every p l ≡ true
unfolding every
every_none p l e = rw e

pub every_done : {A : Type 0} (p : A → Bool) (l : List A) → l ≡ [] → (b : Bool) → (b && every p l) ≡ b
every_done p l e true = every_none p l e
every_done p l e false = refl

-- past the end of the page all literals are 0, and one is below n where all are
module _ (page : List ℕ) (a : ℕ) where
  and_same : (b : Bool) → (b && b) ≡ b
  and_same true = refl
  and_same false = refl

  and_yes : (b : Bool) → (b && true) ≡ b
  and_yes true = refl
  and_yes false = refl

  past_all : (i m : ℕ) → length page ≤ i → every (is_below a) (literals page i (suc m)) ≡ ltb 0 a
  unfolding every literals is_below
  past_all i zero h = rw (get_or-eq_default page 0 h) (and_yes (ltb 0 a))
  past_all i (suc m) h = ap (λ (b : Bool). ltb (byte_at page i) a && b) (past_all (i + 1) m (omega arith)) ∙ rw (get_or-eq_default page 0 h) (and_same (ltb 0 a))

  pub below_past : (i n m : ℕ) → n ≡ m + 1 → length page ≤ i → every (is_below a) (literals page i n) ≡ ltb 0 a
  below_past i n m e h = rw (e, add-one m) (past_all i m h)

-- ---- bytes that rise: two neighbours, and the rest
pub rises_step : (page : List ℕ) (k i n m : ℕ) → n ≡ m + 1 → 0 < m
    → rises (spaced page k i n) ≡ (ltb (byte_at page i) (byte_at page (i + k)) && rises (spaced page k (i + k) m))
unfolding spaced rises rises_above
rises_step page k i n zero e h = absurd (omega arith)
rises_step page k i n (suc m) e h = rw (e, add-one (suc m)) refl

module _ (page : List ℕ) (k i n m x y : ℕ) (e : n ≡ m + 1) (h : 0 < m) (ex : x ≡ byte_at page i) (ey : y ≡ byte_at page (i + k)) where
  pub rises_go : x < y → rises (spaced page k i n) ≡ rises (spaced page k (i + k) m)
  rises_go l = rises_step page k i n m e h ∙ rw (← ex, ← ey, lt-ltb x y l)

  pub rises_stop : y ≤ x → rises (spaced page k i n) ≡ false
  rises_stop l = rises_step page k i n m e h ∙ rw (← ex, ← ey, le-ltb x y l)

pub rises_end : (page : List ℕ) (k i n : ℕ) → n ≤ 1 → rises (spaced page k i n) ≡ true
unfolding spaced rises rises_above
rises_end page k i zero h = refl
rises_end page k i (suc zero) h = refl
rises_end page k i (suc (suc n)) h = absurd (omega arith)

-- literals follow at every place, the first members of pairs at every second
pub spaced_literals : (page : List ℕ) (i n : ℕ) → literals page i n ≡ spaced page 1 i n
unfolding literals spaced
spaced_literals page i zero = refl
spaced_literals page i (suc n) = ap (λ (l : List ℕ). byte_at page i ∷ l) (spaced_literals page (i + 1) n)

pub spaced_firsts : (page : List ℕ) (i n : ℕ) → firsts (pairs_from page i n) ≡ spaced page 2 i n
unfolding firsts pairs_from spaced
spaced_firsts page i zero = refl
spaced_firsts page i (suc n) = ap (λ (l : List ℕ). byte_at page i ∷ l) (spaced_firsts page (i + 2) n)

-- ---- pairs: the first, and the rest
and_no : (x : Bool) → (x && false) ≡ false
and_no true = refl
and_no false = refl

module _ (Q rest : List Pair) (p : Pair) (s : Q ≡ p ∷ rest) where
  pub hold_crossed : in_order p ≡ false → pairs_hold Q ≡ false
  unfolding pairs_hold every
  hold_crossed t = ap pairs_hold s ∙ rw t

  pub hold_shared : (b : Bool) → b ≡ every (apart p) rest → b ≡ false → pairs_hold Q ≡ false
  unfolding pairs_hold all_apart
  hold_shared b e t = ap pairs_hold s ∙ rw (← e, t) (and_no (every in_order (p ∷ rest)))

  pub hold_go : in_order p ≡ true → (b : Bool) → b ≡ every (apart p) rest → b ≡ true → pairs_hold Q ≡ pairs_hold rest
  unfolding pairs_hold every all_apart
  hold_go t b e u = ap pairs_hold s ∙ rw (t, ← e, u)

pub hold_none : (Q : List Pair) → Q ≡ [] → pairs_hold Q ≡ true
unfolding pairs_hold every all_apart
hold_none Q e = rw e

-- the three demands on pairs, in the order in which they are tested
pub bad_pairs_lem : (e r a : Bool) → not (r && (e && a)) ≡ not (e && (r && a))
bad_pairs_lem true r a = refl
bad_pairs_lem false true a = refl
bad_pairs_lem false false a = refl

-- ---- both bodies of a row; the place of the next row's literals
pub bodies_spaced : (page : List ℕ) (row : Row) → bodies_rise (rule_of page row)
    ≡ (rises (spaced page 1 (row.place + row.head) row.pos) && rises (spaced page 1 (row.place + row.head + row.pos) row.neg))
unfolding bodies_rise rule_of
bodies_spaced page row = simp spaced_literals

pub place_next : (page : List ℕ) (r : ℕ) → literal_place page (r + 1) ≡ literal_place page r + literals_of page r
unfolding literal_place
place_next page r = rw (add-one r) refl
