-- The atoms of a set one after the other, the lowest first, and the two parts of a body: the lowest six atoms, which the lane's number decides, and
-- the others, which the block decides. Assumes nothing.
use mathlib.Core.Path.{◌≡◌, refl, sym, ap, ◌∙◌, subst}
use mathlib.Core.Bool.{Bool, true, false, ◌&&◌, ◌||◌, not, and-true, and-false, or-true}
use mathlib.Core.List.{List, [], ◌∷◌}
use Prim.Native.Nat.{ℕ, ◌+◌, ◌-◌, ◌*◌, ◌/◌, ◌%◌, ◌≤◌, ◌<◌}
use native.Mathlib.Decide.{ℕ_discrete, dec_lt}
use native.Mathlib.Omega.{arith}
use lib.Bits.{bit_and, bit_xor}
use lib.Dec.{T, eqb}
use lib.ListN.{length, get_or, set}
use lib.Seq.{get_or-set_same, get_or-set_other}
use Rattle.atoms.specs.Atoms.{has, inside, common}
use Rattle.atoms.proofs.Truth.{and_l, and_r, both, same_yes}
use Rattle.atoms.proofs.Bits.{has_and, has_zero, has_below}
use Rattle.lpod.specs.Lists.{every, some, keep, below}
use Rattle.lpod.proofs.Lists.{every_at, every_made, keep_in, in_keep, numbers_in}
use Rattle.lpod.specs.Satisfied.{all_in, some_in, none_in, body_holds}
use Rattle.words.specs.Coded.{atoms_in, pos_set, neg_set, rule_in}
use Rattle.words.proofs.Bodies.{body_all, body_some}
use borrow.Author.Tests.{eq-eqb, ne_eqb}
use Rattle.lanes.specs.Lanes.{turn, column, Block, LowBody}
use Rattle.lanes.proofs.Words.{full, has_full, has_column, low_six, high_ten}
use Rattle.lanes.proofs.Columns.{has_xor}
use Rattle.lanes.proofs.AtomByAtom.{member}

-- ---- the atoms of a list of them are those of the set
module _ (q : ℕ → Bool) (p : ℕ) where
  pub of_atoms : p < 65536 → T (every q (atoms_in p)) → (i : ℕ) → T (has p i) → T (q i)
  unfolding atoms_in
  of_atoms h t i u = every_at q (keep (has p) (below 16)) t i (keep_in (has p) (below 16) i (numbers_in 0 16 i (omega arith) (omega (arith, has_below 16 p i h u))) u)

  pub to_atoms : ((i : ℕ) → T (has p i) → T (q i)) → T (every q (atoms_in p))
  unfolding atoms_in
  to_atoms f = every_made q (keep (has p) (below 16)) (λ i m. f i (in_keep (has p) (below 16) i m).1)

and_assoc : (a b c : Bool) → ((a && b) && c) ≡ (a && (b && c))
and_assoc true b c = refl
and_assoc false b c = refl

pub none_every : (l : List ℕ) (s : ℕ) → none_in l s ≡ every (λ a. not (has s a)) l
unfolding none_in some_in some every
none_every [] s = refl
none_every (a ∷ l) s = go (has s a) (none_every l s)
  where
    go : (b : Bool) → not (some (has s) l) ≡ every (λ a. not (has s a)) l → not (b || some (has s) l) ≡ (not b && every (λ a. not (has s a)) l)
    go true e = refl
    go false e = e

-- ---- the words of atoms raised one after the other: k is the first of those to come
pub raise_turn : (l rest : List ℕ) (k : ℕ) → l ≡ k ∷ rest → (w : List ℕ) → k < length w → (a j : ℕ) → j < 64
    → (some (eqb a) l || has (get_or w a 0) j) ≡ (some (eqb a) rest || has (get_or (set w k full) a 0) j)
unfolding some
raise_turn l rest k e w s a j m = rw e (go (ℕ_discrete a k))
  where
    go : Dec (a ≡ k) → ((eqb a k || some (eqb a) rest) || has (get_or w a 0) j) ≡ (some (eqb a) rest || has (get_or (set w k full) a 0) j)
    go (yes q) =
        let f : has (get_or (set w k full) a 0) j ≡ true =
        ap (λ (i : ℕ). has (get_or (set w k full) i 0) j) q ∙ ap (λ (x : ℕ). has x j) (get_or-set_same w k full 0 s) ∙ has_full j m in
        rw (eq-eqb a k q, f) (sym (or-true (some (eqb a) rest)))
    go (no n) = rw (ne_eqb a k n, get_or-set_other w k a full 0 n)

-- at the end none is to come: y is what the words say, and x what they said at the start
pub raise_end : (p a : ℕ) → a < 16 → (l : List ℕ) → l ≡ [] → (x y : Bool) → (some (eqb a) (atoms_in p) || x) ≡ (some (eqb a) l || y) → y ≡ (has p a || x)
unfolding some
raise_end p a h l e x y q = rw (member p a h) (sym (q ∙ rw e))

-- ---- the lanes that lie in the word of each of these atoms, those of t where it does not: y are the lanes so far, v is the word of the first atom
abbrev pub Each : List ℕ → Bool → ℕ → Bool
Each l t s = every (λ a. turn t (has s a)) l

pub each_turn : (l rest : List ℕ) (a : ℕ) → l ≡ a ∷ rest → (w : List ℕ) (v : ℕ) → v ≡ get_or w a 0 → (t y j : ℕ)
    → (has y j && Each l (has t j) (column w j)) ≡ (has (bit_and y (bit_xor t v)) j && Each rest (has t j) (column w j))
unfolding every
each_turn l rest a e w v ev t y j =
    rw (e, has_column w j a, ← ev, has_and y (bit_xor t v) j, has_xor t v j) (sym (and_assoc (has y j) (turn (has t j) (has v j)) (Each rest (has t j) (column w j))))

-- no atom is left
pub each_end : (l : List ℕ) → l ≡ [] → (t b : Bool) (s : ℕ) → (b && Each l t s) ≡ b
unfolding every
each_end l e t b s = rw e (and-true b)

-- none is turned over, or all are
pub each_all : (p s j : ℕ) (b : Bool) → (b && Each (atoms_in p) (has 0 j) s) ≡ (b && all_in (atoms_in p) s)
unfolding all_in
each_all p s j b = ap (λ (t : Bool). b && Each (atoms_in p) t s) (has_zero j)

pub each_none : (p s j : ℕ) (b : Bool) → j < 64 → (b && Each (atoms_in p) (has full j) s) ≡ (b && none_in (atoms_in p) s)
each_none p s j b l = ap (λ (t : Bool). b && Each (atoms_in p) t s) (has_full j l) ∙ ap (λ (c : Bool). b && c) (sym (none_every (atoms_in p) s))

-- ---- the two parts of a set of atoms p in a set of block b
module _ (p b j : ℕ) (h : p < 65536) (l : j < 64) where
  whole : 64 * (p / 64) + p % 64 ≡ p
  whole = omega arith

  -- by a test on every atom of p: one on the upper atoms, and one on the lowest six
  part_low : (a : ℕ) → a < 6 → has p a ≡ has (p % 64) a
  part_low a k = ap (λ (x : ℕ). has x a) (sym whole) ∙ low_six (p / 64) (p % 64) a k

  part_high : (a : ℕ) → 6 ≤ a → has p a ≡ has (p / 64) (a - 6)
  part_high a k = ap (λ (x : ℕ). has x a) (sym whole) ∙ high_ten (p / 64) (p % 64) a (omega arith) k

  up_part : (i : ℕ) → has p (i + 6) ≡ has (p / 64) i
  up_part i = part_high (i + 6) (omega arith) ∙ ap (λ (x : ℕ). has (p / 64) x) (let z : i + 6 - 6 ≡ i = omega arith in z)

  up_set : (i : ℕ) → has (64 * b + j) (i + 6) ≡ has b i
  up_set i = high_ten b j (i + 6) l (omega arith) ∙ ap (λ (x : ℕ). has b x) (let z : i + 6 - 6 ≡ i = omega arith in z)

  pub parts : (f : Bool → Bool)
      → every (λ a. f (has (64 * b + j) a)) (atoms_in p) ≡ (every (λ a. f (has b a)) (atoms_in (p / 64)) && every (λ a. f (has j a)) (atoms_in (p % 64)))
  parts f = same_yes (every Q (atoms_in p)) (every B (atoms_in (p / 64)) && every J (atoms_in (p % 64))) to from
    where
      Q : ℕ → Bool
      Q a = f (has (64 * b + j) a)

      B : ℕ → Bool
      B a = f (has b a)

      J : ℕ → Bool
      J a = f (has j a)

      to : T (every Q (atoms_in p)) → T (every B (atoms_in (p / 64)) && every J (atoms_in (p % 64)))
      to t =
          both (every B (atoms_in (p / 64))) (every J (atoms_in (p % 64)))
          (to_atoms B (p / 64) (λ i u. subst (λ (c : Bool). T (f c)) (up_set i) (of_atoms Q p h t (i + 6) (subst T (sym (up_part i)) u))))
          (to_atoms J (p % 64) (λ i u. let k = has_below 6 (p % 64) i (omega arith) u in subst (λ (c : Bool). T (f c)) (low_six b j i k) (of_atoms Q p h t i (subst T (sym (part_low i k)) u))))

      from : T (every B (atoms_in (p / 64)) && every J (atoms_in (p % 64))) → T (every Q (atoms_in p))
      from t = to_atoms Q p (λ i u. go i u (dec_lt i 6))
        where
          go : (i : ℕ) → T (has p i) → Dec (i < 6) → T (Q i)
          go i u (yes k) =
              subst (λ (c : Bool). T (f c)) (sym (low_six b j i k))
              (of_atoms J (p % 64) (omega arith) (and_r (every B (atoms_in (p / 64))) (every J (atoms_in (p % 64))) t) i (subst T (part_low i k) u))
          go i u (no k) =
              subst (λ (c : Bool). T (f c)) (sym (high_ten b j i l (omega arith)))
              (of_atoms B (p / 64) (omega arith) (and_l (every B (atoms_in (p / 64))) (every J (atoms_in (p % 64))) t) (i - 6) (subst T (part_high i (omega arith)) u))

  pub all_parts : all_in (atoms_in p) (64 * b + j) ≡ (all_in (atoms_in (p / 64)) b && all_in (atoms_in (p % 64)) j)
  unfolding all_in
  all_parts = parts (λ c. c)

  pub none_parts : none_in (atoms_in p) (64 * b + j) ≡ (none_in (atoms_in (p / 64)) b && none_in (atoms_in (p % 64)) j)
  none_parts =
      none_every (atoms_in p) (64 * b + j) ∙ parts not
      ∙ ap (λ (c : Bool). c && every (λ a. not (has j a)) (atoms_in (p % 64))) (sym (none_every (atoms_in (p / 64)) b))
      ∙ ap (λ (c : Bool). none_in (atoms_in (p / 64)) b && c) (sym (none_every (atoms_in (p % 64)) j))

-- ---- a row's body in a set of block b
not_not : (b : Bool) → not (not b) ≡ b
not_not true = refl
not_not false = refl

none_common : (p s : ℕ) → p < 65536 → none_in (atoms_in p) s ≡ eqb (common p s) 0
unfolding none_in
none_common p s h = ap (λ (c : Bool). not c) (body_some p s (omega arith)) ∙ not_not (eqb (common p s) 0)

module _ (row b j : ℕ) (l : j < 64) where
  body_parts : body_holds (rule_in row) (64 * b + j)
      ≡ ((inside (pos_set row / 64) b && all_in (atoms_in (pos_set row % 64)) j) && (eqb (common (neg_set row / 64) b) 0 && none_in (atoms_in (neg_set row % 64)) j))
  unfolding body_holds rule_in pos_set neg_set
  body_parts =
      ap (λ (c : Bool). c && none_in (atoms_in (neg_set row)) (64 * b + j)) (all_parts (pos_set row) b j (omega arith) l ∙ ap (λ (c : Bool). c && all_in (atoms_in (pos_set row % 64)) j) (body_all (pos_set row / 64) b (omega arith)))
      ∙ ap (λ (c : Bool). (inside (pos_set row / 64) b && all_in (atoms_in (pos_set row % 64)) j) && c)
      (none_parts (neg_set row) b j (omega arith) l ∙ ap (λ (c : Bool). c && none_in (atoms_in (neg_set row % 64)) j) (none_common (neg_set row / 64) b (omega arith)))

  pub body_no_pos : inside (pos_set row / 64) b ≡ false → has 0 j ≡ body_holds (rule_in row) (64 * b + j)
  body_no_pos e = has_zero j ∙ sym (body_parts ∙ rw e)

  pub body_no_neg : (common (neg_set row / 64) b ≡ 0 → ⊥) → has 0 j ≡ body_holds (rule_in row) (64 * b + j)
  body_no_neg n = has_zero j ∙ sym (body_parts ∙ rw (ne_eqb (common (neg_set row / 64) b) 0 n) (and-false (inside (pos_set row / 64) b && all_in (atoms_in (pos_set row % 64)) j)))

  pub body_low : inside (pos_set row / 64) b ≡ true → common (neg_set row / 64) b ≡ 0 → (low : ℕ) → LowBody row low → has low j ≡ body_holds (rule_in row) (64 * b + j)
  body_low e n low f = f j l ∙ sym (body_parts ∙ rw (e, eq-eqb (common (neg_set row / 64) b) 0 n))

-- ---- the low part of a row's body, made from the lanes whose set holds its positive part; and one row more
module _ (row : ℕ) (w : List ℕ) (h : Block 0 w) (x y : ℕ) where
  pub low_made : ((j : ℕ) → j < 64 → has x j ≡ (has full j && all_in (atoms_in (row % 64)) (column w j)))
      → ((j : ℕ) → j < 64 → has y j ≡ (has x j && none_in (atoms_in (row / 65536 % 64)) (column w j))) → LowBody row y
  unfolding pos_set neg_set
  low_made f g j l =
      let p : row % 65536 % 64 ≡ row % 64 = omega arith in
      let n : row / 65536 % 65536 % 64 ≡ row / 65536 % 64 = omega arith in
      let c : column w j ≡ j = h.1 j l ∙ omega arith in
      g j l ∙ rw (f j l, has_full j l, c, p, n)

pub low_more : (rows lows : List ℕ) (n y : ℕ) → n < length lows → ((i : ℕ) → i < n → LowBody (get_or rows i 0) (get_or lows i 0)) → LowBody (get_or rows n 0) y
    → (i : ℕ) → i < n + 1 → LowBody (get_or rows i 0) (get_or (set lows n y) i 0)
low_more rows lows n y k f g i l = go (ℕ_discrete i n)
  where
    go : Dec (i ≡ n) → LowBody (get_or rows i 0) (get_or (set lows n y) i 0)
    go (yes e) = subst (λ (x : ℕ). LowBody (get_or rows x 0) (get_or (set lows n y) x 0)) (sym e) (subst (λ (x : ℕ). LowBody (get_or rows n 0) x) (sym (get_or-set_same lows n y 0 k)) g)
    go (no e) = subst (λ (x : ℕ). LowBody (get_or rows i 0) x) (sym (get_or-set_other lows n i y 0 e)) (f i (omega arith))
