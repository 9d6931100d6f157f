-- The sets that pass, cut into parts: those up to a place and those from there on; of the first part none may pass, or all; and how many do, where
-- a word says which. Then the marked sets, block by block. Assumes nothing.
use mathlib.Core.Path.{◌≡◌, sym, ap, ◌∙◌}
use mathlib.Core.Bool.{Bool, cond}
use mathlib.Core.List.{List, [], ◌∷◌, ◌++◌}
use Prim.Native.Nat.{ℕ, zero, suc, ◌+◌, ◌-◌, ◌*◌, ◌/◌, ◌%◌, ◌^◌, ◌≤◌, ◌<◌}
use native.Mathlib.Nat.{mod-lt, zero-lt-suc, pow-suc}
use native.Mathlib.Omega.{arith}
use lib.Count.{ones, ones_step, ones-le}
use lib.Dec.{T, eqb}
use lib.ListN.{length, get_or, length-append}
use Rattle.atoms.specs.Atoms.{has, inside}
use Rattle.atoms.proofs.Bits.{two, has_low, has_next}
use Rattle.lpod.specs.Lists.{keep, numbers}
use Rattle.lpod.proofs.Lists.{keep_append, in_numbers}
use Rattle.lanes.specs.Seek.{all_from}
use Rattle.lanes.specs.Marks.{marked, Within}
use Rattle.lanes.proofs.Kept.{keep_none, keep_whole, numbers_append}
use Rattle.lanes.proofs.Seek.{NoneBetween, all_past}
use Rattle.lanes.proofs.Marked.{marked_at, none_before, none_to, none_past}

module _ (q : ℕ → Bool) where
  -- the numbers from i on and below n that pass
  abbrev pub passing : ℕ → ℕ → List ℕ
  passing i n = keep q (numbers i (n - i))

  module _ (i m n : ℕ) (h : i ≤ m) (k : m ≤ n) where
    cut : passing i n ≡ passing i m ++ passing m n
    cut =
        let e : n - i ≡ (m - i) + (n - m) = omega arith in
        let f : i + (m - i) ≡ m = omega arith in
        ap (λ (l : ℕ). keep q (numbers i l)) e ∙ ap (keep q) (numbers_append i (m - i) (n - m)) ∙ keep_append q (numbers i (m - i)) (numbers (i + (m - i)) (n - m))
        ∙ ap (λ (l : ℕ). passing i m ++ keep q (numbers l (n - m))) f

    pub cut_gap : NoneBetween q i m → passing i n ≡ passing m n
    cut_gap f =
        cut ∙ ap (λ (l : List ℕ). l ++ passing m n)
        (keep_none q (numbers i (m - i)) (λ s t. let b = in_numbers i (m - i) s t in f s b.0 (omega (arith, b.1))))

    pub cut_run : ((s : ℕ) → i ≤ s → s < m → T (q s)) → passing i n ≡ numbers i (m - i) ++ passing m n
    cut_run f =
        cut ∙ ap (λ (l : List ℕ). l ++ passing m n)
        (keep_whole q (numbers i (m - i)) (λ s t. let b = in_numbers i (m - i) s t in f s b.0 (omega (arith, b.1))))

  -- the same of all the sets from i on
  pub all_skip : (i m : ℕ) → i ≤ m → m ≤ 65536 → NoneBetween q i m → all_from q i ≡ all_from q m
  unfolding all_from
  all_skip i m h k f = cut_gap i m 65536 h k f

  pub all_cut : (i n : ℕ) → i + n ≤ 65536 → all_from q i ≡ keep q (numbers i n) ++ all_from q (i + n)
  unfolding all_from
  all_cut i n h =
      let e : i + n - i ≡ n = omega arith in
      cut i (i + n) 65536 (omega arith) h ∙ ap (λ (l : ℕ). keep q (numbers i l) ++ passing (i + n) 65536) e

  -- as many as the word has bits
  many_by_bits : (i : ℕ) (l : List ℕ) (d : ℕ) → d < 2 → length (cond (eqb d 1) (i ∷ l) l) ≡ d + length l
  many_by_bits i l = two (λ d. length (cond (eqb d 1) (i ∷ l) l) ≡ d + length l) (omega arith) (omega arith)

  pub many_ones : (n i x : ℕ) → x < 2 ^ n → ((j : ℕ) → j < n → q (i + j) ≡ has x j) → length (keep q (numbers i n)) ≡ ones x
  unfolding keep numbers
  many_ones zero i x h f = omega (arith, ones-le 0 x h)
  many_ones (suc n) i x h f =
      let p : x < 2 ^ n * 2 = rw (← pow-suc 2 n) h in
      let z : i + 0 ≡ i = omega arith in
      let first : q i ≡ eqb (x % 2) 1 = ap q (sym z) ∙ f 0 (omega arith) ∙ has_low x in
      let rest = many_ones n (suc i) (x / 2) (omega arith)
      (λ j l. let e : suc i + j ≡ i + suc j = omega arith in ap q e ∙ f (suc j) (omega arith) ∙ has_next x j) in
      rw first (omega (arith, many_by_bits i (keep q (numbers (suc i) n)) (x % 2) (mod-lt x (zero-lt-suc 1)), rest, ones_step x))

-- ---- block by block
pub block_many : (marks : List ℕ) (b : ℕ) → get_or marks b 0 < 2 ^ 64 → length (keep (marked marks) (numbers (64 * b) 64)) ≡ ones (get_or marks b 0)
block_many marks b small = many_ones (marked marks) 64 (64 * b) (get_or marks b 0) small (λ j l. marked_at marks b j l)

pub block_le : (marks : List ℕ) (b : ℕ) → b < 1024 → length (keep (marked marks) (numbers (64 * b) 64)) ≤ length (all_from (marked marks) (64 * b))
block_le marks b h =
    omega (
      arith,
      ap length (all_cut (marked marks) (64 * b) 64 (omega arith)),
      length-append (keep (marked marks) (numbers (64 * b) 64)) (all_from (marked marks) (64 * b + 64)),
    )

module _ (marks : List ℕ) (low high : ℕ) (w : Within marks low high) where
  pub all_low : low ≤ 1024 → all_from (marked marks) 0 ≡ all_from (marked marks) (64 * low)
  all_low h = all_skip (marked marks) 0 (64 * low) (omega arith) (omega arith) (none_before marks low high w)

  -- those of block b, and those from the next block on that lies between
  pub all_block : (b c : ℕ) → b < c → c ≤ 1024 → ((d : ℕ) → b < d → d < c → T (inside low d) → T (inside d high) → ⊥)
      → all_from (marked marks) (64 * b) ≡ keep (marked marks) (numbers (64 * b) 64) ++ all_from (marked marks) (64 * c)
  all_block b c l h f =
      let e : 64 * b + 64 ≡ 64 * (b + 1) = omega arith in
      all_cut (marked marks) (64 * b) 64 (omega arith)
      ∙ ap (λ (l : List ℕ). keep (marked marks) (numbers (64 * b) 64) ++ l)
      (ap (all_from (marked marks)) e ∙ all_skip (marked marks) (64 * (b + 1)) (64 * c) (omega arith) (omega arith) (none_to marks low high w b c f))

  pub many_block : (b c : ℕ) → b < c → c ≤ 1024 → ((d : ℕ) → b < d → d < c → T (inside low d) → T (inside d high) → ⊥) → get_or marks b 0 < 2 ^ 64
      → length (all_from (marked marks) (64 * b)) ≡ ones (get_or marks b 0) + length (all_from (marked marks) (64 * c))
  many_block b c l h f small =
      ap length (all_block b c l h f) ∙ length-append (keep (marked marks) (numbers (64 * b) 64)) (all_from (marked marks) (64 * c))
      ∙ ap (λ (n : ℕ). n + length (all_from (marked marks) (64 * c))) (block_many marks b small)

pub all_none : (marks : List ℕ) (b : ℕ) → length marks ≤ b → b ≤ 1024 → all_from (marked marks) (64 * b) ≡ []
all_none marks b h k = all_skip (marked marks) (64 * b) 65536 (omega arith) (omega arith) (none_past marks b h) ∙ done
  where
    done : all_from (marked marks) 65536 ≡ []
    done = all_past (marked marks) 65536 (omega arith)
