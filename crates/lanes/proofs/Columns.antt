-- Words of sixteen atoms, changed and compared: an atom that goes in where a word says; the lanes in which two have the same set, one word at a time;
-- the same set in every lane. Assumes nothing.
use mathlib.Core.Path.{◌≡◌, refl, sym, ap, ◌∙◌}
use mathlib.Core.Bool.{Bool, true, false, ◌&&◌, ◌||◌, not, cond, and-true, and-false, and_assoc, or-false}
use mathlib.Core.List.{List}
use Prim.Native.Nat.{ℕ, suc, ◌+◌, ◌-◌, ◌*◌, ◌/◌, ◌%◌, ◌^◌, ◌≤◌, ◌<◌}
use native.Mathlib.Decide.{ℕ_discrete}
use native.Mathlib.Nat.{mod-lt, zero-lt-suc}
use native.Mathlib.Numerals.{add-one}
use native.Mathlib.Omega.{arith}
use borrow.Author.Tests.{eq-eqb, ne_eqb}
use lib.Bits.{bit_and, bit_or, bit_xor, xor_shr, xor_mod, xor_lt}
use lib.Dec.{eqb, eqb→eq}
use lib.ListN.{get_or, length, set, length-set, drop, drop_of_length-le}
use lib.Seq.{drop-cons, get_or-set_same, get_or-set_other}
use Rattle.atoms.specs.Atoms.{has, insert}
use Rattle.atoms.proofs.Truth.{same_yes, true_yes}
use Rattle.atoms.proofs.Bits.{two, has_and, has_or, has_insert, same_atoms}
use Rattle.lanes.specs.Lanes.{turn, column}
use Rattle.lanes.proofs.Words.{full, has_not, has_column}

-- ---- an atom goes in
module _ (ws : List ℕ) (a v j : ℕ) (k : a < length ws) where
  more : List ℕ
  more = set ws a (bit_or (get_or ws a 0) v)

  more_has : (i : ℕ) → has (column more j) i ≡ (has (column ws j) i || (has v j && eqb i a))
  unfolding more
  more_has i = has_column (set ws a (bit_or (get_or ws a 0) v)) j i ∙ go (ℕ_discrete i a) ∙ ap (λ (q : Bool). q || (has v j && eqb i a)) (sym (has_column ws j i))
    where
      go : Dec (i ≡ a) → has (get_or (set ws a (bit_or (get_or ws a 0) v)) i 0) j ≡ (has (get_or ws i 0) j || (has v j && eqb i a))
      go (yes e) =
          ap (λ (n : ℕ). has (get_or (set ws a (bit_or (get_or ws a 0) v)) n 0) j) e
          ∙ ap (λ (x : ℕ). has x j) (get_or-set_same ws a (bit_or (get_or ws a 0) v) 0 k) ∙ has_or (get_or ws a 0) v j
          ∙ rw (e, eq-eqb a a refl, and-true (has v j))
      go (no e) = ap (λ (x : ℕ). has x j) (get_or-set_other ws a i (bit_or (get_or ws a 0) v) 0 e) ∙ rw (ne_eqb i a e, and-false (has v j)) (sym (or-false (has (get_or ws i 0) j)))

  pub put_column : (t : Bool) → has v j ≡ t → column (set ws a (bit_or (get_or ws a 0) v)) j ≡ cond t (insert (column ws j) a) (column ws j)
  unfolding more
  put_column true e = same_atoms (column more j) (insert (column ws j) a) (λ i. more_has i ∙ rw e (sym (has_insert (column ws j) a i)))
  put_column false e = same_atoms (column more j) (column ws j) (λ i. more_has i ∙ rw e (or-false (has (column ws j) i)))

pub put_length : (ws out : List ℕ) (a v : ℕ) → out ≡ set ws a (bit_or (get_or ws a 0) v) → length out ≡ length ws
put_length ws out a v e = ap length e ∙ length-set ws a (bit_or (get_or ws a 0) v)

-- ---- the same set
xor_bits : (a b : ℕ) → eqb (bit_xor (a % 2) (b % 2)) 1 ≡ turn (eqb (a % 2) 1) (eqb (b % 2) 1)
xor_bits a b =
    two (λ x. eqb (bit_xor x (b % 2)) 1 ≡ turn (eqb x 1) (eqb (b % 2) 1))
    (two (λ y. eqb (bit_xor 0 y) 1 ≡ eqb y 1) refl refl (b % 2) (mod-lt b (zero-lt-suc 1)))
    (two (λ y. eqb (bit_xor 1 y) 1 ≡ not (eqb y 1)) refl refl (b % 2) (mod-lt b (zero-lt-suc 1)))
    (a % 2) (mod-lt a (zero-lt-suc 1))

pub has_xor : (a b i : ℕ) → has (bit_xor a b) i ≡ turn (has a i) (has b i)
unfolding has
has_xor a b i = rw (xor_shr, xor_mod (a / 2 ^ i) (b / 2 ^ i) 1) (xor_bits (a / 2 ^ i) (b / 2 ^ i))

-- two numbers are the same if their lowest bits and their halves are
same_bits : (a b : Bool) (m n : ℕ) → eqb (cond a 1 0 + 2 * m) (cond b 1 0 + 2 * n) ≡ (not (turn a b) && eqb m n)
same_bits true true m n =
    same_yes (eqb (1 + 2 * m) (1 + 2 * n)) (eqb m n)
    (λ t. true_yes (eq-eqb m n (omega (arith, eqb→eq (1 + 2 * m) (1 + 2 * n) t)))) (λ t. true_yes (eq-eqb (1 + 2 * m) (1 + 2 * n) (omega (arith, eqb→eq m n t))))
same_bits true false m n = ne_eqb (1 + 2 * m) (0 + 2 * n) (λ e. omega arith)
same_bits false true m n = ne_eqb (0 + 2 * m) (1 + 2 * n) (λ e. omega arith)
same_bits false false m n =
    same_yes (eqb (0 + 2 * m) (0 + 2 * n)) (eqb m n)
    (λ t. true_yes (eq-eqb m n (omega (arith, eqb→eq (0 + 2 * m) (0 + 2 * n) t)))) (λ t. true_yes (eq-eqb (0 + 2 * m) (0 + 2 * n) (omega (arith, eqb→eq m n t))))

-- word k of both, and the words after it
abbrev pub same_from : ℕ → List ℕ → List ℕ → ℕ → Bool
same_from k v w j = eqb (column (drop k v) j) (column (drop k w) j)

module _ (v w : List ℕ) (j : ℕ) where
  pub same_turn : (k acc x y : ℕ) → k < length v → k < length w → x ≡ get_or v k 0 → y ≡ get_or w k 0 → x ≤ full → y ≤ full → j < 64
      → (has acc j && same_from k v w j) ≡ (has (bit_and acc (full - bit_xor x y)) j && same_from (k + 1) v w j)
  unfolding column
  same_turn k acc x y kv kw ex ey hx hy l =
      ap (λ (q : Bool). has acc j && q)
      (rw (drop-cons v k 0 kv, drop-cons w k 0 kw, ← ex, ← ey, add-one k) (same_bits (has x j) (has y j) (column (drop (suc k) v) j) (column (drop (suc k) w) j)))
      ∙ sym (and_assoc (has acc j) (not (turn (has x j) (has y j))) (same_from (k + 1) v w j))
      ∙ ap (λ (q : Bool). q && same_from (k + 1) v w j)
      (sym (has_and acc (full - bit_xor x y) j ∙ ap (λ (q : Bool). has acc j && q) (has_not (bit_xor x y) j (omega (arith, xor_lt 64 x y (omega arith) (omega arith))) l ∙ ap not (has_xor x y j))))

  pub same_end : (k : ℕ) (t : Bool) → length v ≤ k → length w ≤ k → (t && same_from k v w j) ≡ t
  unfolding column
  same_end k t hv hw = rw (drop_of_length-le v hv, drop_of_length-le w hw) (and-true t)
