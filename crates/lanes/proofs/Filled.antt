-- The marks of the sets that are tried, made block after block. A block between the upper parts of the flags and of top has its lanes between the
-- lower parts; any other block has none. Assumes nothing.
use mathlib.Core.Path.{◌≡◌, refl, sym, ap, ◌∙◌, subst}
use mathlib.Core.Bool.{Bool, true, false, ◌&&◌, not, cond}
use mathlib.Core.List.{List}
use Prim.Native.Nat.{ℕ, ◌+◌, ◌-◌, ◌*◌, ◌/◌, ◌%◌, ◌<◌}
use native.Mathlib.Decide.{ℕ_discrete, dec_lt}
use native.Mathlib.Nat.{lt_of_not-le}
use native.Mathlib.Omega.{arith}
use lib.Dec.{T, T_not, not_T, eqb, ltb, lt→ltb, ltb→lt}
use lib.ListN.{length, set}
use borrow.Author.Tests.{ne_eqb, eq-eqb}
use Rattle.atoms.specs.Atoms.{has, inside}
use Rattle.atoms.proofs.Truth.{and_l, and_r, both, same_yes, yes_true, no_false}
use Rattle.atoms.proofs.Bits.{has_below, inside_test, test_inside, inside_le}
use Rattle.lpod.specs.Lists.{every}
use Rattle.lpod.specs.Satisfied.{all_in, none_in}
use Rattle.words.specs.Coded.{atoms_in}
use Rattle.words.proofs.Bodies.{body_all}
use Rattle.lanes.specs.Lanes.{column, Block}
use Rattle.lanes.specs.Marks.{marked}
use Rattle.lanes.specs.Tried.{tried}
use Rattle.lanes.proofs.Words.{full, has_full, has_complement, low_six, high_ten}
use Rattle.lanes.proofs.Bodies.{none_every, of_atoms, to_atoms}
use Rattle.lanes.proofs.Marked.{marked_set}

-- ---- a part of a set, by its upper and its lower atoms
module _ (x y : ℕ) where
  low_bit : (z a : ℕ) → a < 6 → has z a ≡ has (z % 64) a
  low_bit z a k = ap (λ (w : ℕ). has w a) (let e : z ≡ 64 * (z / 64) + z % 64 = omega arith in e) ∙ low_six (z / 64) (z % 64) a k

  high_bit : (z i : ℕ) → has z (i + 6) ≡ has (z / 64) i
  high_bit z i =
      ap (λ (w : ℕ). has w (i + 6)) (let e : z ≡ 64 * (z / 64) + z % 64 = omega arith in e) ∙ high_ten (z / 64) (z % 64) (i + 6) (omega arith) (omega arith)
      ∙ ap (λ (w : ℕ). has (z / 64) w) (let e : i + 6 - 6 ≡ i = omega arith in e)

  pub inside_high : T (inside x y) → T (inside (x / 64) (y / 64))
  inside_high t = inside_test (x / 64) (y / 64) (λ i u. subst T (high_bit y i) (test_inside x y t (i + 6) (subst T (sym (high_bit x i)) u)))

  inside_low : T (inside x y) → T (inside (x % 64) (y % 64))
  inside_low t =
      inside_test (x % 64) (y % 64)
      (λ i u. let k = has_below 6 (x % 64) i (omega arith) u in subst T (low_bit y i k) (test_inside x y t i (subst T (sym (low_bit x i k)) u)))

  inside_made : T (inside (x / 64) (y / 64)) → T (inside (x % 64) (y % 64)) → T (inside x y)
  inside_made t v = inside_test x y (λ i u. go i u (dec_lt i 6))
    where
      go : (i : ℕ) → T (has x i) → Dec (i < 6) → T (has y i)
      go i u (yes k) = subst T (sym (low_bit y i k)) (test_inside (x % 64) (y % 64) v i (subst T (low_bit x i k) u))
      go i u (no k) =
          let e : i - 6 + 6 ≡ i = omega arith in
          subst (λ (w : ℕ). T (has y w)) e (subst T (sym (high_bit y (i - 6))) (test_inside (x / 64) (y / 64) t (i - 6) (subst T (high_bit x (i - 6)) (subst (λ (w : ℕ). T (has x w)) (sym e) u))))

pub inside_self : (x : ℕ) → T (inside x x)
inside_self x = inside_test x x (λ i t. t)

-- ---- the sets of one block
module _ (passes : ℕ → Bool) (flags top : ℕ) where
  abbrev q : ℕ → Bool
  q = tried passes flags top

  tried_high : (s : ℕ) → T (q s) → T (inside (flags / 64) (s / 64)) × T (inside (s / 64) (top / 64))
  unfolding tried
  tried_high s t = (
    inside_high flags s (and_l (inside flags s) (inside s top && passes s) t),
    inside_high s top (and_l (inside s top) (passes s) (and_r (inside flags s) (inside s top && passes s) t)),
  )

  -- a lane of a block between: its lower atoms decide
  module _ (s : ℕ) (u : T (inside (flags / 64) (s / 64))) (v : T (inside (s / 64) (top / 64))) where
    pub tried_low : ((inside (flags % 64) (s % 64) && inside (s % 64) (top % 64)) && passes s) ≡ q s
    unfolding tried
    tried_low =
        same_yes ((inside (flags % 64) (s % 64) && inside (s % 64) (top % 64)) && passes s) (inside flags s && (inside s top && passes s))
        (λ t. let l = and_l (inside (flags % 64) (s % 64) && inside (s % 64) (top % 64)) (passes s) t in
        both (inside flags s) (inside s top && passes s) (inside_made flags s u (and_l (inside (flags % 64) (s % 64)) (inside (s % 64) (top % 64)) l))
        (both (inside s top) (passes s) (inside_made s top v (and_r (inside (flags % 64) (s % 64)) (inside (s % 64) (top % 64)) l)) (and_r (inside (flags % 64) (s % 64) && inside (s % 64) (top % 64)) (passes s) t)))
        (λ t. let r = and_r (inside flags s) (inside s top && passes s) t in
        both (inside (flags % 64) (s % 64) && inside (s % 64) (top % 64)) (passes s)
        (both (inside (flags % 64) (s % 64)) (inside (s % 64) (top % 64)) (inside_low flags s (and_l (inside flags s) (inside s top && passes s) t)) (inside_low s top (and_l (inside s top) (passes s) r)))
        (and_r (inside s top) (passes s) r))

  -- ---- the marks: those of the blocks below b are made
  abbrev pub FilledTo : ℕ → List ℕ → Type 0
  FilledTo b marks = (s : ℕ) → marked marks s ≡ (ltb (s / 64) b && q s)

  pub filled_none : (marks : List ℕ) → ((s : ℕ) → marked marks s ≡ false) → FilledTo (flags / 64) marks
  filled_none marks f s =
      f s ∙ sym (no_false (ltb (s / 64) (flags / 64) && q s)
      (λ t. let l = ltb→lt (s / 64) (flags / 64) (and_l (ltb (s / 64) (flags / 64)) (q s) t) in
      let m = inside_le (flags / 64) (s / 64) (test_inside (flags / 64) (s / 64) (tried_high s (and_r (ltb (s / 64) (flags / 64)) (q s) t)).0) in
      omega arith))

  module _ (marks : List ℕ) (b c x : ℕ) (k : b < length marks) (u : T (inside (flags / 64) b)) (v : T (inside b (top / 64)))
      (l : b < c) (skip : (d : ℕ) → b < d → d < c → T (inside (flags / 64) d) → T (inside d (top / 64)) → ⊥) (f : FilledTo b marks)
      (e : (j : ℕ) → j < 64 → has x j ≡ ((inside (flags % 64) j && inside j (top % 64)) && passes (64 * b + j))) where
    pub filled_more : FilledTo c (set marks b x)
    filled_more s = marked_set marks b x s k ∙ go (ℕ_discrete (s / 64) b)
      where
        go : Dec (s / 64 ≡ b) → cond (eqb (s / 64) b) (has x (s % 64)) (marked marks s) ≡ (ltb (s / 64) c && q s)
        go (yes p) =
            let w : 64 * b + s % 64 ≡ s = omega arith in
            let m : T (ltb (s / 64) c) = lt→ltb (s / 64) c (omega arith) in
            rw (eq-eqb (s / 64) b p, yes_true (ltb (s / 64) c) m)
            (e (s % 64) (omega arith) ∙ ap (λ (n : ℕ). (inside (flags % 64) (s % 64) && inside (s % 64) (top % 64)) && passes n) w
            ∙ tried_low s (subst (λ (n : ℕ). T (inside (flags / 64) n)) (sym p) u) (subst (λ (n : ℕ). T (inside n (top / 64))) (sym p) v))
        go (no p) = rw (ne_eqb (s / 64) b p) (f s ∙ same_yes (ltb (s / 64) b && q s) (ltb (s / 64) c && q s) to from)
          where
            to : T (ltb (s / 64) b && q s) → T (ltb (s / 64) c && q s)
            to t =
                let n = ltb→lt (s / 64) b (and_l (ltb (s / 64) b) (q s) t) in
                both (ltb (s / 64) c) (q s) (lt→ltb (s / 64) c (omega arith)) (and_r (ltb (s / 64) b) (q s) t)

            from : T (ltb (s / 64) c && q s) → T (ltb (s / 64) b && q s)
            from t =
                let n = ltb→lt (s / 64) c (and_l (ltb (s / 64) c) (q s) t) in
                let y = and_r (ltb (s / 64) c) (q s) t in
                both (ltb (s / 64) b) (q s) (lt→ltb (s / 64) b (lt_of_not-le (λ m. skip (s / 64) (omega arith) n (tried_high s y).0 (tried_high s y).1))) y

  pub filled_all : (marks : List ℕ) (b : ℕ) → top / 64 < b → FilledTo b marks → (s : ℕ) → marked marks s ≡ q s
  filled_all marks b h f s =
      f s ∙ same_yes (ltb (s / 64) b && q s) (q s) (λ t. and_r (ltb (s / 64) b) (q s) t)
      (λ t. let m = inside_le (s / 64) (top / 64) (test_inside (s / 64) (top / 64) (tried_high s t).1) in
      both (ltb (s / 64) b) (q s) (lt→ltb (s / 64) b (omega arith)) t)

-- ---- the lanes between, as they are made in block 0
none_outside : (t j : ℕ) → t < 64 → j < 64 → none_in (atoms_in (63 - t)) j ≡ inside j t
none_outside t j h l =
    none_every (atoms_in (63 - t)) j
    ∙ same_yes (every (λ a. not (has j a)) (atoms_in (63 - t))) (inside j t)
    (λ u. inside_test j t (λ i v. in_top i v (has t i) refl (λ n. of_atoms (λ a. not (has j a)) (63 - t) (omega arith) u i n)))
    (λ u. to_atoms (λ a. not (has j a)) (63 - t)
    (λ i v. not_T (has j i) (λ w. T_not (has t i) (subst T (has_complement 6 t i h (has_below 6 (63 - t) i (omega arith) v)) v) (test_inside j t u i w))))
  where
    in_top : (i : ℕ) → T (has j i) → (b : Bool) → has t i ≡ b → (T (has (63 - t) i) → T (not (has j i))) → T (has t i)
    in_top i v true e f = subst T (sym e) tt
    in_top i v false e f =
        absurd (T_not (has j i) (f (subst T (sym (has_complement 6 t i h (has_below 6 j i l v))) (subst (λ (b : Bool). T (not b)) (sym e) tt))) v)

pub between_made : (flags top : ℕ) (w : List ℕ) → Block 0 w → (x y : ℕ)
    → ((j : ℕ) → j < 64 → has x j ≡ (has full j && all_in (atoms_in (flags % 64)) (column w j)))
    → ((j : ℕ) → j < 64 → has y j ≡ (has x j && none_in (atoms_in (63 - top % 64)) (column w j)))
    → (j : ℕ) → j < 64 → has y j ≡ (inside (flags % 64) j && inside j (top % 64))
between_made flags top w h x y f g j l =
    let c : column w j ≡ j = h.1 j l ∙ omega arith in
    g j l ∙ rw (f j l, has_full j l, c, body_all (flags % 64) j (omega arith), none_outside (top % 64) j (omega arith) l)

-- a lane between in a block between holds the flags
pub lane_flags : (flags top b x : ℕ) → T (inside (flags / 64) b) → ((j : ℕ) → j < 64 → has x j ≡ (inside (flags % 64) j && inside j (top % 64)))
    → (j : ℕ) → j < 64 → T (has x j) → T (inside flags (64 * b + j))
lane_flags flags top b x u f j l t =
    let d : (64 * b + j) / 64 ≡ b = omega arith in
    let m : (64 * b + j) % 64 ≡ j = omega arith in
    inside_made flags (64 * b + j) (rw d u) (rw m (and_l (inside (flags % 64) j) (inside j (top % 64)) (subst T (f j l) t)))

-- what is marked in a block: a lane between that passes
pub lane_passes : (passes : ℕ → Bool) (flags top b x y : ℕ) → ((j : ℕ) → j < 64 → has x j ≡ (inside (flags % 64) j && inside j (top % 64)))
    → ((j : ℕ) → j < 64 → has y j ≡ (has x j && passes (64 * b + j)))
    → (j : ℕ) → j < 64 → has y j ≡ ((inside (flags % 64) j && inside j (top % 64)) && passes (64 * b + j))
lane_passes passes flags top b x y f g j l = g j l ∙ ap (λ (c : Bool). c && passes (64 * b + j)) (f j l)
