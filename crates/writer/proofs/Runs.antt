-- Runs of bytes on a page: a run in the part where it stands, a run cut in two, and a page as the run of all its bytes. A run is `literals`, whatever
-- stands there, atoms or not. By induction on the run. Assumes nothing.
use mathlib.Core.Path.{◌≡◌, refl, sym, ap, ◌∙◌}
use mathlib.Core.List.{List, [], ◌∷◌, ◌++◌, append-nil}
use Prim.Native.Nat.{ℕ, zero, suc, ◌+◌, ◌*◌, ◌/◌, ◌%◌, ◌<◌}
use native.Mathlib.Nat.{zero-add, suc-add, add-zero}
use native.Mathlib.Omega.{arith}
use lib.ListN.{length}
use lib.Seq.{get_or-append-add}
use Rattle.page.specs.Fields.{byte_at, word_at, rows_at, head_count, pos_count, neg_count, spare_byte}
use Rattle.page.specs.Program.{literals}
use Rattle.page.proofs.RowSteps.{Bytes}
use Rattle.writer.specs.Content.{two_bytes, four_bytes, counts_from}

-- a run behind the first part
pub run_past : (a b : List ℕ) (i n k : ℕ) → k ≡ length a + i → literals (a ++ b) k n ≡ literals b i n
unfolding literals
run_past a b i zero k e = refl
run_past a b i (suc n) k e =
    rw (e, get_or-append-add a b i 0) (ap (λ (l : List ℕ). byte_at b i ∷ l) (run_past a b (i + 1) n (length a + i + 1) (omega arith)))

-- the first part is the run of its length
pub run_first : (a b : List ℕ) → literals (a ++ b) 0 (length a) ≡ a
unfolding literals
run_first [] b = refl
run_first (x ∷ a) b = ap (λ (l : List ℕ). x ∷ l) (run_past (x ∷ []) (a ++ b) 0 (length a) 1 refl ∙ run_first a b)

pub run_all : (l : List ℕ) → literals l 0 (length l) ≡ l
run_all l = ap (λ (m : List ℕ). literals m 0 (length l)) (sym (append-nil l)) ∙ run_first l []

-- a run cut in two
pub run_cut : (page : List ℕ) (i m n : ℕ) → literals page i (m + n) ≡ literals page i m ++ literals page (i + m) n
unfolding literals
run_cut page i zero n = rw (zero-add, add-zero)
run_cut page i (suc m) n =
    let e : i + 1 + m ≡ i + suc m = omega arith in
    rw (suc-add, run_cut page (i + 1) m n, e)

-- ---- a run of two bytes for each number: of a page whose entries are bytes
unfoldable pub words_from : List ℕ → ℕ → ℕ → List ℕ
words_from page i zero = []
words_from page i (suc n) = word_at page i ∷ words_from page (i + 2) n

pub words_run : (page : List ℕ) → Bytes page → (i n : ℕ) → literals page i (2 * n) ≡ two_bytes (words_from page i n)
unfolding literals two_bytes words_from word_at
words_run page bytes i zero = refl
words_run page bytes i (suc n) =
    let e : 2 * suc n ≡ suc (suc (2 * n)) = omega arith in
    let low : byte_at page i ≡ (byte_at page i + 256 * byte_at page (i + 1)) % 256 = omega (arith, bytes i) in
    let high : byte_at page (i + 1) ≡ (byte_at page i + 256 * byte_at page (i + 1)) / 256 = omega (arith, bytes i) in
    let at : i + 1 + 1 ≡ i + 2 = omega arith in
    rw (e, at, ← low, ← high, words_run page bytes (i + 2) n)

-- ---- a run of four bytes for each row, whose fourth is zero
pub rows_run : (page : List ℕ) (r n : ℕ) → ((k : ℕ) → k < r + n → spare_byte page k ≡ 0) → literals page (18 + 4 * r) (4 * n) ≡ four_bytes (counts_from page r n)
unfolding literals four_bytes counts_from rows_at head_count pos_count neg_count spare_byte
rows_run page r zero z = refl
rows_run page r (suc n) z =
    let e : 4 * suc n ≡ suc (suc (suc (suc (4 * n)))) = omega arith in
    let two : 18 + 4 * r + 1 + 1 ≡ 18 + 4 * r + 2 = omega arith in
    let three : 18 + 4 * r + 2 + 1 ≡ 18 + 4 * r + 3 = omega arith in
    let four : 18 + 4 * r + 3 + 1 ≡ 18 + 4 * (r + 1) = omega arith in
    rw (e, two, three, four, z r (omega arith), rows_run page (r + 1) n (λ k h. z k (omega arith)))

pub length_counts : (page : List ℕ) (r n : ℕ) → length (counts_from page r n) ≡ 3 * n
unfolding counts_from
length_counts page r zero = refl
length_counts page r (suc n) = omega (arith, length_counts page (r + 1) n)

-- and back: where the bytes of the page from row r on are those of l, its counts are l
pub counts_back : (page l rest : List ℕ) (r n : ℕ) → length l ≡ 3 * n → ((j : ℕ) → byte_at page (18 + 4 * r + j) ≡ byte_at (four_bytes l ++ rest) j)
    → counts_from page r n ≡ l
unfolding four_bytes counts_from rows_at head_count pos_count neg_count
counts_back page [] rest r zero e h = refl
counts_back page (a ∷ l) rest r zero e h = absurd (omega arith)
counts_back page [] rest r (suc n) e h = absurd (omega arith)
counts_back page (a ∷ []) rest r (suc n) e h = absurd (omega arith)
counts_back page (a ∷ b ∷ []) rest r (suc n) e h = absurd (omega arith)
counts_back page (a ∷ b ∷ c ∷ l) rest r (suc n) e h =
    let at : 18 + 4 * r ≡ 18 + 4 * r + 0 = omega arith in
    let first : byte_at page (18 + 4 * r) ≡ a = ap (byte_at page) at ∙ h 0 in
    let next : (j : ℕ) → byte_at page (18 + 4 * (r + 1) + j) ≡ byte_at (four_bytes l ++ rest) j
    = λ j. ap (byte_at page) (omega arith) ∙ h (suc (suc (suc (suc j)))) in
    rw (first, h 1, h 2, counts_back page l rest (r + 1) n (omega arith) next)
