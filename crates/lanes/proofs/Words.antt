-- Words of 64 lanes: bits of a complement and of a difference, the set in a lane, and the words of a block. The words of the lowest six atoms are one
-- computed table. Assumes nothing.
use mathlib.Core.Path.{◌≡◌, refl, sym, ap, ◌∙◌, subst}
use mathlib.Core.Bool.{Bool, true, false, ◌||◌, not, cond, or-false}
use mathlib.Core.List.{List, [], ◌∷◌}
use Prim.Native.Nat.{ℕ, zero, suc, ◌+◌, ◌-◌, ◌*◌, ◌/◌, ◌%◌, ◌^◌, ◌≤◌, ◌<◌}
use native.Mathlib.Nat.{mod-lt, zero-lt-suc, pow-suc}
use native.Mathlib.Decide.{dec_lt}
use native.Mathlib.Omega.{arith}
use lib.Dec.{T, eqb}
use lib.Pow.{shr-shr}
use lib.ListN.{get_or, length, replicate, get_or-replicate}
use Rattle.atoms.specs.Atoms.{has}
use Rattle.atoms.proofs.Bits.{two, has_low, has_next, has_zero, has_high, has_ext}
use Rattle.lpod.specs.Lists.{every, numbers, below}
use Rattle.lpod.proofs.Lists.{every_at, numbers_in}
use Rattle.lanes.specs.Lanes.{column, Block}

-- ---- the complement in k bits
not_low : (p x : ℕ) → x < p * 2 → eqb ((p * 2 - 1 - x) % 2) 1 ≡ not (eqb (x % 2) 1)
not_low p x h =
    two (λ d. x % 2 ≡ d → eqb ((p * 2 - 1 - x) % 2) 1 ≡ not (eqb d 1))
    (λ e. ap (λ (y : ℕ). eqb y 1) (let z : (p * 2 - 1 - x) % 2 ≡ 1 = omega arith in z))
    (λ e. ap (λ (y : ℕ). eqb y 1) (let z : (p * 2 - 1 - x) % 2 ≡ 0 = omega arith in z))
    (x % 2) (mod-lt x (zero-lt-suc 1)) refl

pub has_complement : (k x j : ℕ) → x < 2 ^ k → j < k → has (2 ^ k - 1 - x) j ≡ not (has x j)
has_complement zero x j h l = absurd (omega arith)
has_complement (suc k) x zero h l =
    let p : x < 2 ^ k * 2 = rw (← pow-suc 2 k) h in
    has_low (2 ^ suc k - 1 - x) ∙ rw (pow-suc) (not_low (2 ^ k) x p) ∙ ap (λ (b : Bool). not b) (sym (has_low x))
has_complement (suc k) x (suc j) h l =
    let p : x < 2 ^ k * 2 = rw (← pow-suc 2 k) h in
    let e : (2 ^ k * 2 - 1 - x) / 2 ≡ 2 ^ k - 1 - x / 2 = omega arith in
    has_next (2 ^ suc k - 1 - x) j ∙ ap (λ (y : ℕ). has y j) (rw (pow-suc) e) ∙ has_complement k (x / 2) j (omega arith) (omega arith) ∙ ap (λ (b : Bool). not b) (sym (has_next x j))

-- all ones, and what `!x` is in 64 bits
abbrev pub full : ℕ
full = 18446744073709551615

pub has_not : (x j : ℕ) → x ≤ full → j < 64 → has (full - x) j ≡ not (has x j)
has_not x j h l = has_complement 64 x j (omega arith) l

pub has_full : (j : ℕ) → j < 64 → has full j ≡ true
has_full j l = has_not 0 j (omega arith) l ∙ ap (λ (b : Bool). not b) (has_zero j)

-- ---- the set in a lane
bit_low : (b : Bool) (n : ℕ) → eqb ((cond b 1 0 + 2 * n) % 2) 1 ≡ b
bit_low true n = ap (λ (y : ℕ). eqb y 1) (let z : (1 + 2 * n) % 2 ≡ 1 = omega arith in z)
bit_low false n = ap (λ (y : ℕ). eqb y 1) (let z : (0 + 2 * n) % 2 ≡ 0 = omega arith in z)

bit_half : (b : Bool) (n : ℕ) → (cond b 1 0 + 2 * n) / 2 ≡ n
bit_half true n = let z : (1 + 2 * n) / 2 ≡ n = omega arith in z
bit_half false n = let z : (0 + 2 * n) / 2 ≡ n = omega arith in z

pub has_column : (ws : List ℕ) (j a : ℕ) → has (column ws j) a ≡ has (get_or ws a 0) j
unfolding column
has_column [] j a = has_zero a ∙ sym (has_zero j)
has_column (x ∷ ws) j zero = has_low (cond (has x j) 1 0 + 2 * column ws j) ∙ bit_low (has x j) (column ws j)
has_column (x ∷ ws) j (suc a) =
    has_next (cond (has x j) 1 0 + 2 * column ws j) a ∙ ap (λ (y : ℕ). has y a) (bit_half (has x j) (column ws j)) ∙ has_column ws j a

bit_le : (b : Bool) → cond b 1 0 ≤ 1
bit_le true = omega arith
bit_le false = omega arith

pub column_lt : (ws : List ℕ) (j : ℕ) → column ws j < 2 ^ length ws
unfolding column
column_lt [] j = omega arith
column_lt (x ∷ ws) j = rw (pow-suc) (omega (arith, bit_le (has x j), column_lt ws j))

-- ---- a set of block b: its lowest six atoms are those of the lane's number, the others those of b
pub has_add : (s k i : ℕ) → has s (k + i) ≡ has (s / 2 ^ k) i
unfolding has
has_add s k i = ap (λ (x : ℕ). eqb (x % 2) 1) (sym (shr-shr s k i))

pub low_six : (b j a : ℕ) → a < 6 → has (64 * b + j) a ≡ has j a
unfolding has
low_six b j zero h = ap (λ (x : ℕ). eqb x 1) (let z : (64 * b + j) / 1 % 2 ≡ j / 1 % 2 = omega arith in z)
low_six b j (suc zero) h = ap (λ (x : ℕ). eqb x 1) (let z : (64 * b + j) / 2 % 2 ≡ j / 2 % 2 = omega arith in z)
low_six b j (suc (suc zero)) h = ap (λ (x : ℕ). eqb x 1) (let z : (64 * b + j) / 4 % 2 ≡ j / 4 % 2 = omega arith in z)
low_six b j (suc (suc (suc zero))) h = ap (λ (x : ℕ). eqb x 1) (let z : (64 * b + j) / 8 % 2 ≡ j / 8 % 2 = omega arith in z)
low_six b j (suc (suc (suc (suc zero)))) h = ap (λ (x : ℕ). eqb x 1) (let z : (64 * b + j) / 16 % 2 ≡ j / 16 % 2 = omega arith in z)
low_six b j (suc (suc (suc (suc (suc zero))))) h = ap (λ (x : ℕ). eqb x 1) (let z : (64 * b + j) / 32 % 2 ≡ j / 32 % 2 = omega arith in z)
low_six b j (suc (suc (suc (suc (suc (suc a)))))) h = absurd (omega arith)

pub high_ten : (b j a : ℕ) → j < 64 → 6 ≤ a → has (64 * b + j) a ≡ has b (a - 6)
high_ten b j a l h =
    let e : a ≡ 6 + (a - 6) = omega arith in
    let d : (64 * b + j) / 64 ≡ b = omega arith in
    ap (λ (x : ℕ). has (64 * b + j) x) e ∙ has_add (64 * b + j) 6 (a - 6) ∙ ap (λ (x : ℕ). has x (a - 6)) d

-- ---- the words of block 0: one computed table of 16 times 64
abbrev pub lane_words : List ℕ
lane_words =
    12297829382473034410 ∷ 14757395258967641292 ∷ 17361641481138401520 ∷ 18374966859414961920 ∷ 18446462603027742720 ∷ 18446744069414584320
    ∷ 0 ∷ 0 ∷ 0 ∷ 0 ∷ 0 ∷ 0 ∷ 0 ∷ 0 ∷ 0 ∷ 0 ∷ []

same : Bool → Bool → Bool
same true b = b
same false b = not b

same_eq : (a b : Bool) → T (same a b) → a ≡ b
unfolding same
same_eq true true t = refl
same_eq true false t = absurd t
same_eq false true t = absurd t
same_eq false false t = refl

table : T (every (λ a. every (λ j. same (has (get_or lane_words a 0) j) (has j a)) (below 64)) (below 16))
unfolding every same has numbers
table = tt

pub low_words : (a j : ℕ) → a < 16 → j < 64 → has (get_or lane_words a 0) j ≡ has j a
low_words a j h l =
    same_eq (has (get_or lane_words a 0) j) (has j a)
    (every_at (λ j. same (has (get_or lane_words a 0) j) (has j a)) (below 64)
    (every_at (λ a. every (λ j. same (has (get_or lane_words a 0) j) (has j a)) (below 64)) (below 16) table a (numbers_in 0 16 a (omega arith) (omega arith)))
    j (numbers_in 0 64 j (omega arith) (omega arith)))

-- ---- these with the words of the upper atoms raised: an atom of a set of block b is one of 64 b, or one of the lane's number
both_parts : (b j a : ℕ) → j < 64 → (has (64 * b) a || has j a) ≡ has (64 * b + j) a
both_parts b j a l = go (dec_lt a 6)
  where
    upper : 64 * b ≡ 64 * b + 0
    upper = omega arith

    go : Dec (a < 6) → (has (64 * b) a || has j a) ≡ has (64 * b + j) a
    go (yes k) = ap (λ (x : ℕ). has x a || has j a) upper ∙ rw (low_six b 0 a k, has_zero a) (sym (low_six b j a k))
    go (no k) =
        let h : 6 ≤ a = omega arith in
        ap (λ (x : ℕ). has x a || has j a) upper ∙ rw (high_ten b 0 a (omega arith) h, has_high 6 j a l h) (or-false (has b (a - 6)) ∙ sym (high_ten b j a l h))

-- z are words of block 0
made : (w z : List ℕ) (b : ℕ) → b < 1024 → length w ≡ 16 → ((a j : ℕ) → a < 16 → j < 64 → has (get_or z a 0) j ≡ has j a)
    → ((a j : ℕ) → a < 16 → j < 64 → has (get_or w a 0) j ≡ (has (64 * b) a || has (get_or z a 0) j)) → Block b w
made w z b h k g f = (
  k,
  λ j l. has_ext 16 (column w j) (64 * b + j) (subst (λ (n : ℕ). column w j < 2 ^ n) k (column_lt w j)) (omega arith)
      (λ a m. has_column w j a ∙ f a j m l ∙ ap (λ (c : Bool). has (64 * b) a || c) (g a j m l) ∙ both_parts b j a l),
)

pub block_made : (w z : List ℕ) (b : ℕ) → b < 1024 → Block 0 z → length w ≡ 16
    → ((a j : ℕ) → a < 16 → j < 64 → has (get_or w a 0) j ≡ (has (64 * b) a || has (get_or z a 0) j)) → Block b w
block_made w z b h o k = made w z b h k (λ a j m l. sym (has_column z j a) ∙ ap (λ (x : ℕ). has x a) (o.1 j l ∙ omega arith))

pub block_zero : Block 0 lane_words
block_zero = made lane_words lane_words 0 (omega arith) refl low_words (λ a j m l. ap (λ (c : Bool). c || has (get_or lane_words a 0) j) (sym (has_zero a)))

-- the same set in every lane
pub same_made : (w : List ℕ) (s : ℕ) → s < 65536 → length w ≡ 16 → ((a j : ℕ) → a < 16 → j < 64 → has (get_or w a 0) j ≡ (has s a || has (get_or (replicate 16 0) a 0) j))
    → (j : ℕ) → j < 64 → column w j ≡ s
same_made w s h k f j l =
    has_ext 16 (column w j) s (subst (λ (n : ℕ). column w j < 2 ^ n) k (column_lt w j)) (omega arith)
    (λ a m. has_column w j a ∙ f a j m l ∙ ap (λ (x : ℕ). has s a || has x j) (get_or-replicate 16 a 0 0 m) ∙ rw (has_zero j) (or-false (has s a)))
