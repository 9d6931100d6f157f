-- The rows of degree 1 as a word, bit n for row n: of one set, and of all lanes of a block together. A set that is over M has degree 1 wherever M has,
-- so where M's word is no part of the block's, no lane of the block is over M; and none is where M's word has every row. Assumes nothing.
use mathlib.Core.Path.{◌≡◌, refl, sym, ap, ◌∙◌, subst}
use mathlib.Core.Bool.{Bool, false, ◌&&◌, ◌||◌}
use mathlib.Core.Logic.{⊎_elim}
use mathlib.Core.List.Memᴰ
use mathlib.Core.List.{List, [], ◌∷◌, map, Memᴰ}
use Prim.Native.Nat.{ℕ, zero, suc, ◌+◌, ◌*◌, ◌%◌, ◌^◌, ◌<◌}
use native.Mathlib.Nat.{one-mul}
use native.Mathlib.Decide.{ℕ_discrete}
use native.Mathlib.Omega.{arith}
use lib.Bits.{bit_and, bit_or}
use lib.Dec.{T, eqb, ltb, eqb→eq, lt→ltb, ltb→lt}
use lib.ListN.{length, get_or}
use lib.Pow.{shl_exact}
use lib.Seq.{get_or-take}
use borrow.Author.Tests.{eq-eqb}
use Rattle.atoms.specs.Atoms.{has, inside}
use Rattle.atoms.proofs.Truth.{and_l, and_r, both, or_l, or_r, or_cases, no_false, same_yes, true_yes}
use Rattle.atoms.proofs.Bits.{has_and, has_or, has_zero, has_single, inside_test}
use Rattle.lpod.specs.Rule.{Rule}
use Rattle.lpod.specs.Degree.{degree}
use Rattle.words.specs.Coded.{rule_in, rules_in}
use Rattle.lanes.specs.Lanes.{Says}
use Rattle.lanes.specs.Rank.{over, Grades}
use Rattle.lanes.proofs.RankedRows.{over_first, over_none}

-- ---- one bit more in a word of 32
with_bit : ℕ → ℕ → ℕ
with_bit x n = bit_or x (1 * 2 ^ n % 4294967296)

has_with : (x n a : ℕ) → n < 32 → has (with_bit x n) a ≡ (has x a || eqb a n)
unfolding with_bit
has_with x n a h =
    has_or x (1 * 2 ^ n % 4294967296) a
    ∙ ap (λ (y : ℕ). has x a || has y a) (shl_exact 1 n 32 (omega arith) (omega arith) ∙ one-mul (2 ^ n)) ∙ ap (λ (b : Bool). has x a || b) (has_single n a)

-- ---- the rows of degree 1 of one set, from its grades
abbrev pub FirstTo : List ℕ → ℕ → ℕ → Type 0
FirstTo grades n x = (i : ℕ) → has x i ≡ (ltb i n && eqb (get_or grades i 0) 1)

pub first_none : (grades : List ℕ) → FirstTo grades 0 0
first_none grades i = has_zero i ∙ sym (no_false (ltb i 0 && eqb (get_or grades i 0) 1) (λ t. let h = ltb→lt i 0 (and_l (ltb i 0) _ t) in omega (arith, h)))

-- a row further: row n counts where its grade is 1
module _ (grades : List ℕ) (n x : ℕ) (f : FirstTo grades n x) where
  one : ℕ → Bool
  one i = eqb (get_or grades i 0) 1

  further : (i : ℕ) → T (ltb i n && one i) → T (ltb i (n + 1) && one i)
  further i t = let h = ltb→lt i n (and_l (ltb i n) (one i) t) in both (ltb i (n + 1)) (one i) (lt→ltb i (n + 1) (omega (arith, h))) (and_r (ltb i n) (one i) t)

  -- of the rows up to n, those but n are below n
  nearer : (i : ℕ) → T (ltb i (n + 1) && one i) → (i ≡ n → ⊥) → T (ltb i n && one i)
  nearer i t d =
      let h = ltb→lt i (n + 1) (and_l (ltb i (n + 1)) (one i) t) in
      both (ltb i n) (one i) (lt→ltb i n (omega (arith, h, d))) (and_r (ltb i (n + 1)) (one i) t)

  pub first_on : n < 32 → get_or grades n 0 ≡ 1 → FirstTo grades (n + 1) (bit_or x (1 * 2 ^ n % 4294967296))
  unfolding with_bit one
  first_on h e i =
      has_with x n i h ∙ ap (λ (b : Bool). b || eqb i n) (f i)
      ∙ same_yes ((ltb i n && one i) || eqb i n) (ltb i (n + 1) && one i) to (λ t. from t (ℕ_discrete i n))
    where
      to : T ((ltb i n && one i) || eqb i n) → T (ltb i (n + 1) && one i)
      to t =
          ⊎_elim (further i)
          (λ q. let d = eqb→eq i n q in both (ltb i (n + 1)) (one i) (lt→ltb i (n + 1) (omega (arith, d))) (true_yes (ap (λ (a : ℕ). eqb (get_or grades a 0) 1) d ∙ eq-eqb (get_or grades n 0) 1 e)))
          (or_cases (ltb i n && one i) (eqb i n) t)

      from : T (ltb i (n + 1) && one i) → Dec (i ≡ n) → T ((ltb i n && one i) || eqb i n)
      from t (yes d) = or_r (ltb i n && one i) (eqb i n) (true_yes (eq-eqb i n d))
      from t (no d) = or_l (ltb i n && one i) (eqb i n) (nearer i t d)

  pub first_off : (get_or grades n 0 ≡ 1 → ⊥) → FirstTo grades (n + 1) x
  unfolding one
  first_off e i =
      f i ∙ same_yes (ltb i n && one i) (ltb i (n + 1) && one i) (further i)
      (λ t. nearer i t (λ d. e (ap (λ (a : ℕ). get_or grades a 0) (sym d) ∙ eqb→eq (get_or grades i 0) 1 (and_r (ltb i (n + 1)) (one i) t))))

-- ---- the rows of degree 1 of some lane of a block
abbrev pub FirstsTo : List ℕ → ℕ → ℕ → ℕ → ℕ → Type 0
FirstsTo rows b among n x = (i j : ℕ) → i < n → j < 64 → T (has among j) → degree (64 * b + j) (rule_in (get_or rows i 0)) ≡ 1 → T (has x i)

module _ (rows : List ℕ) (b among n x : ℕ) (f : FirstsTo rows b among n x) where
  pub firsts_on : n < 32 → FirstsTo rows b among (n + 1) (bit_or x (1 * 2 ^ n % 4294967296))
  unfolding with_bit
  firsts_on k i j h l t e = subst T (sym (has_with x n i k)) (go (ℕ_discrete i n))
    where
      go : Dec (i ≡ n) → T (has x i || eqb i n)
      go (yes d) = or_r (has x i) (eqb i n) (true_yes (eq-eqb i n d))
      go (no d) = or_l (has x i) (eqb i n) (f i j (omega arith) l t e)

  -- y says where the row has degree 1; no lane of `among` is there
  pub firsts_off : (y : ℕ) → Says b y (λ s. eqb (degree s (rule_in (get_or rows n 0))) 1) → bit_and y among ≡ 0 → FirstsTo rows b among (n + 1) x
  firsts_off y q z i j h l t e = go (ℕ_discrete i n)
    where
      go : Dec (i ≡ n) → T (has x i)
      go (yes d) =
          let e' : degree (64 * b + j) (rule_in (get_or rows n 0)) ≡ 1 = subst (λ (a : ℕ). degree (64 * b + j) (rule_in (get_or rows a 0)) ≡ 1) d e in
          let u : T (has y j) = true_yes (q j l ∙ eq-eqb (degree (64 * b + j) (rule_in (get_or rows n 0))) 1 e') in
          absurd (subst T (sym (has_and y among j) ∙ ap (λ (a : ℕ). has a j) z ∙ has_zero j) (both (has y j) (has among j) u t))
      go (no d) = f i j (omega arith) l t e

-- ---- what the words tell. The grades of M are its degrees
degree_at : (rows : List ℕ) (M n : ℕ) → n < length rows → get_or (map (degree M) (rules_in rows)) n 0 ≡ degree M (rule_in (get_or rows n 0))
unfolding rules_in
degree_at [] M n h = absurd (omega arith)
degree_at (w ∷ rows) M zero h = refl
degree_at (w ∷ rows) M (suc n) h = degree_at rows M n (omega arith)

pub grade_at : (rows grades : List ℕ) (M : ℕ) → Grades rows grades M → (n : ℕ) → n < length rows → get_or grades n 0 ≡ degree M (rule_in (get_or rows n 0))
grade_at rows grades M g n h = sym (get_or-take (length rows) grades n 0 h) ∙ ap (λ (l : List ℕ). get_or l n 0) g ∙ degree_at rows M n h

-- a row's rule is one of the rules, and each rule is some row's
row_in_lem : (rows : List ℕ) (n : ℕ) → n < length rows → Memᴰ (rule_in (get_or rows n 0)) (rules_in rows)
unfolding rules_in
row_in_lem [] n h = absurd (omega arith)
row_in_lem (w ∷ rows) zero h = Memᴰ.head refl
row_in_lem (w ∷ rows) (suc n) h = Memᴰ.tail (row_in_lem rows n (omega arith))

in_rows : (rows : List ℕ) (r : Rule) → Memᴰ r (rules_in rows) → (n : ℕ) × ((n < length rows) × (r ≡ rule_in (get_or rows n 0)))
unfolding rules_in
in_rows [] r m = elim m [ ]
in_rows (w ∷ rows) r m = ⊎_elim (λ e. (0, (omega arith, e))) (λ i. let x = in_rows rows r i in (suc x.0, (omega (arith, x.1.0), x.1.1))) (Memᴰ.cases_cons m)

module _ (rows grades : List ℕ) (M : ℕ) (g : Grades rows grades M) (k : ℕ) (f : FirstTo grades (length rows) k) where
  -- bit n of M's word says that row n has degree 1 in M
  first_degree : (n : ℕ) → T (has k n) → (n < length rows) × (degree M (rule_in (get_or rows n 0)) ≡ 1)
  first_degree n t =
      let u : T (ltb n (length rows) && eqb (get_or grades n 0) 1) = subst T (f n) t in
      let h = ltb→lt n (length rows) (and_l (ltb n (length rows)) (eqb (get_or grades n 0) 1) u) in
      (h, sym (grade_at rows grades M g n h) ∙ eqb→eq (get_or grades n 0) 1 (and_r (ltb n (length rows)) (eqb (get_or grades n 0) 1) u))

  -- the block is skipped
  pub skip : (b among x : ℕ) → FirstsTo rows b among (length rows) x → (T (inside k x) → ⊥) → (j : ℕ) → j < 64 → T (has among j) → over rows (64 * b + j) M ≡ false
  skip b among x q n j l t =
      no_false (over rows (64 * b + j) M) (λ o. n (inside_test k x (λ i u.
      let d = first_degree i u in
      q i j d.0 l t (over_first rows (64 * b + j) M o (rule_in (get_or rows i 0)) (row_in_lem rows i d.0) d.1))))

  -- M has degree 1 in every row
  pub none_over : ((n : ℕ) → n < length rows → T (has k n)) → (s : ℕ) → over rows s M ≡ false
  none_over a s = over_none rows s M (λ r m. let x = in_rows rows r m in rw x.1.1 (first_degree x.0 (a x.0 x.1.0)).1)
