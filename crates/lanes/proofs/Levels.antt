-- Degrees and their comparison, in one lane: the lanes in which a row has one degree, the lanes whose rows of one degree hold those of a graded set or
-- are among those, and the first degree at which the two differ. Once no lane is left in which all is equal, no later degree decides. Assumes nothing.
use mathlib.Core.Path.{◌≡◌, refl, sym, ap, ◌∙◌}
use mathlib.Core.Bool.{Bool, true, false, ◌&&◌, ◌||◌, not, cond, and_assoc, and_comm, and-true, or-true, or-false}
use mathlib.Core.List.{List, [], ◌∷◌, ◌++◌, map}
use Prim.Native.Nat.{ℕ, zero, suc, ◌+◌, ◌-◌, ◌*◌, ◌/◌, ◌%◌, ◌≤◌, ◌<◌, max}
use native.Mathlib.Decide.{dec_lt}
use native.Mathlib.Numerals.{add-one}
use native.Mathlib.Omega.{arith}
use lib.Bits.{bit_and, bit_or, and_le_r}
use lib.Dec.{T, eqb}
use lib.ListN.{length, get_or, drop}
use borrow.Author.Tests.{eq-eqb, ne_eqb}
use Rattle.atoms.specs.Atoms.{has}
use Rattle.atoms.proofs.Truth.{both, same_yes, false_no}
use Rattle.atoms.proofs.Bits.{has_and, has_or, has_zero}
use Rattle.lpod.specs.Lists.{every, some, numbers}
use Rattle.lpod.specs.Rule.{Rule}
use Rattle.lpod.specs.Satisfied.{body_holds}
use Rattle.lpod.specs.Degree.{place, degree}
use Rattle.lpod.specs.Preferred.{equal_at, more_at, first_more, within, longest}
use Rattle.lpod.proofs.Lists.{every_append, some_append, every_made, in_numbers}
use Rattle.lpod.proofs.DegreesInRange.{degree_to}
use Rattle.lpod.proofs.FirstMore.{Decides, first_says}
use Rattle.words.specs.Coded.{rule_in, rules_in, head_length, head_digits, digits}
use Rattle.words.proofs.Places.{digits_length, digits_step, digits_none}
use Rattle.words.proofs.Rest.{rest_step, rest_none}
use Rattle.lanes.specs.Lanes.{Says, Block}
use Rattle.lanes.specs.Rank.{over, Grades}
use Rattle.lanes.proofs.FirstRows.{grade_at}
use Rattle.lanes.proofs.Words.{full, has_not, has_full, has_column}

-- ---- the longest head, row by row
pub one_longest : (P : List Rule) → 1 ≤ longest P
unfolding longest
one_longest [] = omega arith
one_longest (r ∷ P) = let h = one_longest P in omega arith

pub longest_start : (P : List Rule) → longest P ≡ max 1 (longest P)
longest_start P = let h = one_longest P in omega arith

pub longest_turn : (P rest : List Rule) (r : Rule) (m k m' : ℕ) → P ≡ r ∷ rest → k ≡ length r.head → m' ≡ max m k → max m (longest P) ≡ max m' (longest rest)
unfolding longest
longest_turn P rest r m k m' e ek em = ap (λ (Q : List Rule). max m (longest Q)) e ∙ omega (arith, ek, em)

pub longest_end : (P : List Rule) (m : ℕ) → P ≡ [] → 1 ≤ m → max m (longest P) ≡ m
unfolding longest
longest_end P m e h = ap (λ (Q : List Rule). max m (longest Q)) e ∙ omega (arith, h)

-- ---- the place of the first head atom: none before the place where the count begins
place_late : (p k : ℕ) (l : List ℕ) (s : ℕ) → 1 ≤ k → k < p → eqb (place p l s) k ≡ false
unfolding place
place_late p k [] s h i = ne_eqb 0 k (omega arith)
place_late p k (a ∷ l) s h i = go (has s a) (place_late (suc p) k l s h (omega arith))
  where
    go : (b : Bool) → eqb (place (suc p) l s) k ≡ false → eqb (cond b p (place (suc p) l s)) k ≡ false
    go true e = ne_eqb p k (omega arith)
    go false e = e

-- the word of an atom, in a lane
word_has : (b : ℕ) (w : List ℕ) → Block b w → (a j : ℕ) → j < 64 → has (64 * b + j) a ≡ has (get_or w a 0) j
word_has b w B a j l = ap (λ (s : ℕ). has s a) (sym (B.1 j l)) ∙ has_column w j a

-- one head atom passed over; the last one met. y is the atom's word
module _ (b : ℕ) (w : List ℕ) (B : Block b w) (p k n m d y : ℕ) (e : n ≡ m + 1) (Y : y ≡ get_or w (d % 16) 0) (j : ℕ) (l : j < 64) where
  later : ℕ
  later = place (suc p) (digits m (d / 16)) (64 * b + j)

  head_is : place p (digits n d) (64 * b + j) ≡ cond (has y j) p later
  unfolding place later
  head_is =
      ap (λ (q : List ℕ). place p q (64 * b + j)) (digits_step n m d e)
      ∙ ap (λ (c : Bool). cond c p later) (word_has b w B (d % 16) j l ∙ ap (λ (x : ℕ). has x j) (sym Y))

  pub place_pass : y ≤ full → p < k → (t : ℕ)
      → (has t j && eqb (place p (digits n d) (64 * b + j)) k) ≡ (has (bit_and t (full - y)) j && eqb (place (p + 1) (digits m (d / 16)) (64 * b + j)) k)
  unfolding later
  place_pass h i t =
      let u : has (bit_and t (full - y)) j ≡ (has t j && not (has y j)) = has_and t (full - y) j ∙ ap (λ (c : Bool). has t j && c) (has_not y j h l) in
      ap (λ (x : ℕ). has t j && eqb x k) head_is ∙ go (has t j) (has y j) ∙ rw (u, add-one p)
    where
      go : (a c : Bool) → (a && eqb (cond c p later) k) ≡ ((a && not c) && eqb later k)
      go true true = ne_eqb p k (omega arith)
      go true false = refl
      go false c = refl

  pub place_meet : 1 ≤ k → p ≡ k → eqb (place p (digits n d) (64 * b + j)) k ≡ has y j
  unfolding later
  place_meet h ep = ap (λ (x : ℕ). eqb x k) head_is ∙ go (has y j)
    where
      go : (c : Bool) → eqb (cond c p later) k ≡ c
      go true = eq-eqb p k ep
      go false = place_late (suc p) k (digits m (d / 16)) (64 * b + j) h (omega arith)

-- ---- the degree of a row, from its body and its head of n atoms
module _ (row b x n : ℕ) (X : Says b x (body_holds (rule_in row))) (N : n ≡ length (rule_in row).head) (j : ℕ) (l : j < 64) where
  heads : ℕ
  heads = place 1 (digits n (head_digits row)) (64 * b + j)

  is_degree : ℕ → Bool
  is_degree k = eqb (degree (64 * b + j) (rule_in row)) k

  by_body : (k : ℕ) → is_degree k ≡ eqb (cond (has x j) heads 1) k
  unfolding degree rule_in heads is_degree
  by_body k =
      ap (λ (c : Bool). eqb (cond c (place 1 (digits (head_length row) (head_digits row)) (64 * b + j)) 1) k) (sym (X j l))
      ∙ ap (λ (m : ℕ). eqb (cond (has x j) (place 1 (digits m (head_digits row)) (64 * b + j)) 1) k) (sym (N ∙ digits_length (head_length row) (head_digits row)))

  -- degree 1: the body does not hold, or the first head atom is there
  at_one : (k : ℕ) → k ≡ 1 → x ≤ full → (y : Bool) → eqb heads 1 ≡ y → (has (full - x) j || y) ≡ is_degree k
  unfolding is_degree
  at_one k e h y q = ap (λ (c : Bool). c || y) (has_not x j h l) ∙ go (has x j) ∙ sym (by_body 1) ∙ ap is_degree (sym e)
    where
      go : (c : Bool) → (not c || y) ≡ eqb (cond c heads 1) 1
      go true = sym q
      go false = refl

  pub one_bare : (k : ℕ) → k ≡ 1 → x ≤ full → n ≡ 0 → has (full - x) j ≡ eqb (degree (64 * b + j) (rule_in row)) k
  unfolding is_degree heads place
  one_bare k e h z =
      sym (or-false (has (full - x) j)) ∙ at_one k e h false (ap (λ (q : List ℕ). eqb (place 1 q (64 * b + j)) 1) (digits_none n (head_digits row) z))

  pub one_head : (k : ℕ) → k ≡ 1 → x ≤ full → (n ≡ 0 → ⊥) → (w : List ℕ) → Block b w → (y : ℕ) → y ≡ get_or w (head_digits row % 16) 0
      → has (bit_or (full - x) y) j ≡ eqb (degree (64 * b + j) (rule_in row)) k
  unfolding is_degree heads
  one_head k e h z w B y Y =
      has_or (full - x) y j ∙ at_one k e h (has y j) (place_meet b w B 1 1 n (n - 1) (head_digits row) y (omega arith) Y j l (omega arith) refl)

  -- a later degree: the body holds, and the first head atom that is there has that place. No place is past the head
  pub later_start : (k : ℕ) → 1 ≤ k → (k ≡ 1 → ⊥) → eqb (degree (64 * b + j) (rule_in row)) k ≡ (has x j && eqb (place 1 (digits (n + 1 - 1) (head_digits row)) (64 * b + j)) k)
  unfolding is_degree heads
  later_start k h i =
      let z : n ≡ n + 1 - 1 = omega arith in
      by_body k ∙ go (has x j) ∙ ap (λ (m : ℕ). has x j && eqb (place 1 (digits m (head_digits row)) (64 * b + j)) k) z
    where
      go : (c : Bool) → eqb (cond c heads 1) k ≡ (c && eqb heads k)
      go true = refl
      go false = ne_eqb 1 k (λ e. i (sym e))

  pub later_past : (k : ℕ) → 1 ≤ k → (k ≡ 1 → ⊥) → n < k → has 0 j ≡ eqb (degree (64 * b + j) (rule_in row)) k
  later_past k h i m =
      let d = degree_to (64 * b + j) (rule_in row) in
      has_zero j ∙ sym (ne_eqb (degree (64 * b + j) (rule_in row)) k (omega (arith, d, N, i)))

-- ---- one degree, all rows: e says where the row in hand has degree k, g is its degree in the graded set M
module _ (P rest : List Rule) (r : Rule) (q : P ≡ r ∷ rest) (k M s e g j : ℕ) (E : has e j ≡ eqb (degree s r) k) (G : g ≡ degree M r) where
  up_is : (u : Bool) → (u && within P k s M) ≡ ((u && (not (eqb g k) || has e j)) && within rest k s M)
  unfolding within every
  up_is u =
      ap (λ (Q : List Rule). u && within Q k s M) q ∙ sym (and_assoc u (not (eqb (degree M r) k) || eqb (degree s r) k) (within rest k s M))
      ∙ ap (λ (c : Bool). (u && (not (eqb (degree M r) k) || c)) && within rest k s M) (sym E)
      ∙ ap (λ (x : ℕ). (u && (not (eqb x k) || has e j)) && within rest k s M) (sym G)

  down_is : (u : Bool) → (u && within P k M s) ≡ ((u && (not (has e j) || eqb g k)) && within rest k M s)
  unfolding within every
  down_is u =
      ap (λ (Q : List Rule). u && within Q k M s) q ∙ sym (and_assoc u (not (eqb (degree s r) k) || eqb (degree M r) k) (within rest k M s))
      ∙ ap (λ (c : Bool). (u && (not c || eqb (degree M r) k)) && within rest k M s) (sym E)
      ∙ ap (λ (x : ℕ). (u && (not (has e j) || eqb x k)) && within rest k M s) (sym G)

  -- the row has degree k in M: it counts upward
  here_up : g ≡ k → (u : ℕ) → (has u j && within P k s M) ≡ (has (bit_and u e) j && within rest k s M)
  here_up h u = up_is (has u j) ∙ ap (λ (c : Bool). c && within rest k s M) (ap (λ (c : Bool). has u j && (not c || has e j)) (eq-eqb g k h) ∙ sym (has_and u e j))

  here_down : g ≡ k → (u : ℕ) → (has u j && within P k M s) ≡ (has u j && within rest k M s)
  here_down h u =
      down_is (has u j)
      ∙ ap (λ (c : Bool). c && within rest k M s) (ap (λ (c : Bool). has u j && (not (has e j) || c)) (eq-eqb g k h) ∙ ap (λ (c : Bool). has u j && c) (or-true (not (has e j))) ∙ and-true (has u j))

  -- it has another degree in M: it counts downward
  there_up : (g ≡ k → ⊥) → (u : ℕ) → (has u j && within P k s M) ≡ (has u j && within rest k s M)
  there_up h u = up_is (has u j) ∙ ap (λ (c : Bool). c && within rest k s M) (ap (λ (c : Bool). has u j && (not c || has e j)) (ne_eqb g k h) ∙ and-true (has u j))

  there_down : (g ≡ k → ⊥) → (u : ℕ) → e ≤ full → j < 64 → (has u j && within P k M s) ≡ (has (bit_and u (full - e)) j && within rest k M s)
  there_down h u b l =
      down_is (has u j)
      ∙ ap (λ (c : Bool). c && within rest k M s)
      (ap (λ (c : Bool). has u j && (not (has e j) || c)) (ne_eqb g k h) ∙ ap (λ (c : Bool). has u j && c) (or-false (not (has e j)) ∙ sym (has_not e j b l)) ∙ sym (has_and u (full - e) j))

within_end : (P : List Rule) (k M N : ℕ) (c : Bool) → P ≡ [] → (c && within P k M N) ≡ c
unfolding within every
within_end P k M N c e = ap (λ (Q : List Rule). c && within Q k M N) e ∙ and-true c

-- the rows before n are done: what all rows say is what the two words say and the rest does
abbrev pub Leveled : List ℕ → List ℕ → ℕ → ℕ → ℕ → ℕ → ℕ → Type 0
Leveled rows grades b k n up down =
    (M : ℕ) → Grades rows grades M → (j : ℕ) → j < 64
    → (within (rules_in rows) k (64 * b + j) M ≡ (has up j && within (map rule_in (drop n rows)) k (64 * b + j) M))
    × (within (rules_in rows) k M (64 * b + j) ≡ (has down j && within (map rule_in (drop n rows)) k M (64 * b + j)))

module _ (rows grades : List ℕ) (b k : ℕ) where
  pub level_start : Leveled rows grades b k 0 full full
  unfolding rules_in
  level_start M g j l = (start (within (rules_in rows) k (64 * b + j) M), start (within (rules_in rows) k M (64 * b + j)))
    where
      start : (c : Bool) → c ≡ (has full j && c)
      start c = ap (λ (q : Bool). q && c) (sym (has_full j l))

  pub level_end : (n up down : ℕ) → length rows ≤ n → Leveled rows grades b k n up down → (M : ℕ) → Grades rows grades M
      → Says b up (λ s. within (rules_in rows) k s M) × Says b down (λ s. within (rules_in rows) k M s)
  level_end n up down h L M g =
      let e = rest_none rule_in rows n h in (
        (λ j l. sym ((L M g j l).0 ∙ within_end _ k (64 * b + j) M (has up j) e)),
        (λ j l. sym ((L M g j l).1 ∙ within_end _ k M (64 * b + j) (has down j) e)),
      )

  module _ (n up down e : ℕ) (h : n < length rows) (E : Says b e (λ s. eqb (degree s (rule_in (get_or rows n 0))) k)) (L : Leveled rows grades b k n up down) where
    pub level_here : get_or grades n 0 ≡ k → Leveled rows grades b k (n + 1) (bit_and up e) down
    level_here q M g j l =
        let r = rest_step rule_in rows n h (get_or rows n 0) refl in
        let d = grade_at rows grades M g n h in (
          (L M g j l).0 ∙ here_up _ _ _ r k M (64 * b + j) e (get_or grades n 0) j (E j l) d q up,
          (L M g j l).1 ∙ here_down _ _ _ r k M (64 * b + j) e (get_or grades n 0) j (E j l) d q down,
        )

    pub level_there : (get_or grades n 0 ≡ k → ⊥) → e ≤ full → Leveled rows grades b k (n + 1) up (bit_and down (full - e))
    level_there q t M g j l =
        let r = rest_step rule_in rows n h (get_or rows n 0) refl in
        let d = grade_at rows grades M g n h in (
          (L M g j l).0 ∙ there_up _ _ _ r k M (64 * b + j) e (get_or grades n 0) j (E j l) d q up,
          (L M g j l).1 ∙ there_down _ _ _ r k M (64 * b + j) e (get_or grades n 0) j (E j l) d q down t l,
        )

-- ---- degree after degree, in one lane: won at one of the first n, or equal at all of them. u says "at least" at the next degree, v the other way
numbers_last : (i n : ℕ) → numbers i (suc n) ≡ numbers i n ++ ((i + n) ∷ [])
unfolding numbers
numbers_last i zero = let z : i ≡ i + 0 = omega arith in ap (λ (k : ℕ). k ∷ []) z
numbers_last i (suc n) =
    let z : suc i + n ≡ i + suc n = omega arith in
    ap (λ (l : List ℕ). i ∷ l) (numbers_last (suc i) n ∙ ap (λ (k : ℕ). numbers (suc i) n ++ (k ∷ [])) z)

module _ (w : ℕ → ℕ → ℕ → Bool) (S N : ℕ) where
  unfoldable pub equal_to : ℕ → Bool
  equal_to n = every (λ j. equal_at w j S N) (numbers 1 n)

  equal_next : (n : ℕ) → equal_to (suc n) ≡ (equal_to n && (w (suc n) S N && w (suc n) N S))
  unfolding equal_to equal_at every
  equal_next n =
      let z : 1 + n ≡ suc n = omega arith in
      ap (every (λ j. w j S N && w j N S)) (numbers_last 1 n) ∙ every_append (λ j. w j S N && w j N S) (numbers 1 n) ((1 + n) ∷ [])
      ∙ ap (λ (k : ℕ). equal_to n && ((w k S N && w k N S) && true)) z ∙ ap (λ (c : Bool). equal_to n && c) (and-true (w (suc n) S N && w (suc n) N S))

  decides : ℕ → Bool
  decides k = more_at w k S N && equal_to (k - 1)

  more_next : (n : ℕ) → first_more w (suc n) S N ≡ (first_more w n S N || ((w (suc n) S N && not (w (suc n) N S)) && equal_to n))
  unfolding first_more equal_to more_at some decides
  more_next n =
      let z : 1 + n ≡ suc n = omega arith in
      ap (some decides) (numbers_last 1 n) ∙ some_append decides (numbers 1 n) ((1 + n) ∷ [])
      ∙ ap (λ (k : ℕ). first_more w n S N || (decides k || false)) z ∙ ap (λ (c : Bool). first_more w n S N || c) (or-false (decides (suc n)))
      ∙ ap (λ (k : ℕ). first_more w n S N || (more_at w (suc n) S N && equal_to k)) (let y : suc n - 1 ≡ n = omega arith in y)

  -- where the two are not equal up to n, no later degree decides
  more_stays : (n m : ℕ) → n ≤ m → equal_to n ≡ false → first_more w m S N ≡ first_more w n S N
  unfolding equal_to equal_at
  more_stays n m h e = same_yes (first_more w m S N) (first_more w n S N) to from
    where
      to : T (first_more w m S N) → T (first_more w n S N)
      to t = let x = (first_says w m S N).0 t in go x (dec_lt n x.0)
        where
          go : (x : (k : ℕ) × (k ≤ m) × Decides w k S N) → Dec (n < x.0) → T (first_more w n S N)
          go x (yes i) = absurd (false_no e (every_made (λ j. w j S N && w j N S) (numbers 1 n) (λ j y.
              let r = in_numbers 1 n j y in
              let b : j < x.0 = omega (arith, r.1, i) in
              both (w j S N) (w j N S) (x.2.up j r.0 b) (x.2.down j r.0 b))))
          go x (no i) = (first_says w n S N).1 (x.0, omega (arith, i), x.2)

      from : T (first_more w n S N) → T (first_more w m S N)
      from t = let x = (first_says w n S N).0 t in (first_says w m S N).1 (x.0, omega (arith, x.1), x.2)

  -- one lane of the words that the loop carries: u and v among the lanes in which all is equal so far
  module _ (among same u v j n k : ℕ) (hk : k ≡ n + 1) (hu : has u j ≡ w k S N) (hv : has v j ≡ w k N S) (he : has same j ≡ (has among j && equal_to n)) where
    same_turn : has (bit_and (bit_and same u) (bit_and same v)) j ≡ (has among j && equal_to k)
    same_turn =
        has_and (bit_and same u) (bit_and same v) j ∙ rw (has_and same u j, has_and same v j, he, hu, hv, hk, add-one n)
        (go (has among j) (equal_to n) (w (suc n) S N) (w (suc n) N S) ∙ ap (λ (c : Bool). has among j && c) (sym (equal_next n)))
      where
        go : (a e x y : Bool) → (((a && e) && x) && ((a && e) && y)) ≡ (a && (e && (x && y)))
        go false e x y = refl
        go true false x y = refl
        go true true false y = refl
        go true true true y = refl

    won_turn : (won : ℕ) → v ≤ full → j < 64 → has won j ≡ (has among j && first_more w n S N)
        → has (bit_or won (bit_and (bit_and same u) (full - bit_and same v))) j ≡ (has among j && first_more w k S N)
    won_turn won h l hf =
        has_or won (bit_and (bit_and same u) (full - bit_and same v)) j
        ∙ ap (λ (c : Bool). has won j || c) (has_and (bit_and same u) (full - bit_and same v) j)
        ∙ rw (has_not (bit_and same v) j (let z = and_le_r same v in omega (arith, h, z)) l, has_and same u j, has_and same v j, he, hf, hu, hv, hk, add-one n)
        (go (has among j) (first_more w n S N) (equal_to n) (w (suc n) S N) (w (suc n) N S) ∙ ap (λ (c : Bool). has among j && c) (sym (more_next n)))
      where
        go : (a f e x y : Bool) → ((a && f) || (((a && e) && x) && not ((a && e) && y))) ≡ (a && (f || ((x && not y) && e)))
        go false f e x y = refl
        go true true e x y = refl
        go true false true true true = refl
        go true false true true false = refl
        go true false true false y = refl
        go true false false true true = refl
        go true false false true false = refl
        go true false false false y = refl

  same_start : (among j : ℕ) → has among j ≡ (has among j && equal_to 0)
  unfolding equal_to every numbers
  same_start among j = sym (and-true (has among j))

  won_start : (among j : ℕ) → has 0 j ≡ (has among j && first_more w 0 S N)
  unfolding first_more some numbers
  won_start among j = has_zero j ∙ sym (off (has among j))
    where
      off : (c : Bool) → (c && false) ≡ false
      off true = refl
      off false = refl

  -- no lane is left in which all is equal
  won_stop : (among same won j n m : ℕ) → n ≤ m → same ≡ 0 → has same j ≡ (has among j && equal_to n) → has won j ≡ (has among j && first_more w n S N)
      → has won j ≡ (has among j && first_more w m S N)
  won_stop among same won j n m h z he hf = hf ∙ go (has among j) (sym he ∙ ap (λ (x : ℕ). has x j) z ∙ has_zero j)
    where
      go : (a : Bool) → (a && equal_to n) ≡ false → (a && first_more w n S N) ≡ (a && first_more w m S N)
      go true e = sym (more_stays n m h e)
      go false e = refl

-- equal one way is equal the other way
equal_back : (w : ℕ → ℕ → ℕ → Bool) (S N n : ℕ) → equal_to w S N n ≡ equal_to w N S n
unfolding equal_to every numbers
equal_back w S N zero = refl
equal_back w S N (suc n) =
    equal_next w S N n ∙ ap (λ (c : Bool). c && (w (suc n) S N && w (suc n) N S)) (equal_back w S N n)
    ∙ ap (λ (c : Bool). equal_to w N S n && c) (and_comm (w (suc n) S N) (w (suc n) N S)) ∙ sym (equal_next w N S n)

-- ---- in all lanes: the lane's set and the graded set M, both ways
abbrev pub ComparedTo : List ℕ → List ℕ → ℕ → ℕ → ℕ → ℕ → ℕ → ℕ → Type 0
ComparedTo rows grades b among n same won lost =
    (M : ℕ) → Grades rows grades M → (j : ℕ) → j < 64
    → (has same j ≡ (has among j && equal_to (within (rules_in rows)) (64 * b + j) M n))
    × (has won j ≡ (has among j && first_more (within (rules_in rows)) n (64 * b + j) M))
    × (has lost j ≡ (has among j && first_more (within (rules_in rows)) n M (64 * b + j)))

module _ (rows grades : List ℕ) (b among : ℕ) where
  pub compare_start : ComparedTo rows grades b among 0 among 0 0
  compare_start M g j l =
      let w = within (rules_in rows) in
      let s = 64 * b + j in
      (same_start w s M among j, won_start w s M among j, won_start w M s among j)

  back : (same j M n : ℕ) → has same j ≡ (has among j && equal_to (within (rules_in rows)) (64 * b + j) M n)
      → has same j ≡ (has among j && equal_to (within (rules_in rows)) M (64 * b + j) n)
  back same j M n e = e ∙ ap (λ (c : Bool). has among j && c) (equal_back (within (rules_in rows)) (64 * b + j) M n)

  -- the degrees before k are done, and u and v are the words of k
  pub compare_turn : (k same won lost u v : ℕ) → 1 ≤ k → u ≤ full → v ≤ full
      → ((M : ℕ) → Grades rows grades M → Says b u (λ s. within (rules_in rows) k s M) × Says b v (λ s. within (rules_in rows) k M s))
      → ComparedTo rows grades b among (k - 1) same won lost
      → ComparedTo rows grades b among (k + 1 - 1) (bit_and (bit_and same u) (bit_and same v)) (bit_or won (bit_and (bit_and same u) (full - bit_and same v)))
      (bit_or lost (bit_and (bit_and same v) (full - bit_and same u)))
  compare_turn k same won lost u v K hu hv at R M g j l =
      let w = within (rules_in rows) in
      let s = 64 * b + j in
      let z : k + 1 - 1 ≡ k = omega arith in
      let e : k ≡ k - 1 + 1 = omega arith in
      let x = (at M g).0 j l in
      let y = (at M g).1 j l in
      let r = R M g j l in
      rw z (
        same_turn w s M among same u v j (k - 1) k e x y r.0,
        won_turn w s M among same u v j (k - 1) k e x y r.0 won hv l r.1,
        won_turn w M s among same v u j (k - 1) k e y x (back same j M (k - 1) r.0) lost hu l r.2,
      )

  -- every degree is done, or no lane is left in which all is equal
  abbrev Ended : ℕ → ℕ → Type 0
  Ended won lost =
      (M : ℕ) → Grades rows grades M → (j : ℕ) → j < 64
      → (has won j ≡ (has among j && over rows (64 * b + j) M)) × (has lost j ≡ (has among j && over rows M (64 * b + j)))

  pub compare_end : (n same won lost : ℕ) → n ≡ longest (rules_in rows) → ComparedTo rows grades b among n same won lost → Ended won lost
  unfolding over
  compare_end n same won lost e R M g j l =
      let w = within (rules_in rows) in
      let s = 64 * b + j in
      let r = R M g j l in
      (r.1 ∙ ap (λ (m : ℕ). has among j && first_more w m s M) e, r.2 ∙ ap (λ (m : ℕ). has among j && first_more w m M s) e)

  pub compare_stop : (n same won lost : ℕ) → n ≤ longest (rules_in rows) → same ≡ 0 → ComparedTo rows grades b among n same won lost → Ended won lost
  unfolding over
  compare_stop n same won lost h z R M g j l =
      let w = within (rules_in rows) in
      let s = 64 * b + j in
      let m = longest (rules_in rows) in
      let r = R M g j l in
      (won_stop w s M among same won j n m h z r.0 r.1, won_stop w M s among same lost j n m h z (back same j M n r.0) r.2)
