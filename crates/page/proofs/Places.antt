-- What stands where, on any page: an atom of a run of literals is a byte of it; a row of the page is row s at the place of its literals; a pair
-- is two bytes of the pairs; places rise with the rows. By induction on the run. Assumes nothing.
use mathlib.Core.Path.{◌≡◌, refl, ap, ◌∙◌}
use mathlib.Core.Logic.{⊎_elim}
use mathlib.Core.List.Memᴰ
use mathlib.Core.List.{List, Memᴰ}
use Prim.Native.Nat.{ℕ, zero, suc, ◌+◌, ◌*◌, ◌≤◌, ◌<◌}
use native.Mathlib.Decide.{ℕ_discrete, dec_le}
use native.Mathlib.Nat.{le_refl}
use native.Mathlib.Omega.{arith}
use lib.ListN.{length}
use Rattle.lpod.specs.Rule.{Rule, Pair}
use Rattle.page.specs.Fields.{byte_at, literals_of}
use Rattle.page.specs.Program.{literals, rule_at, rows_from, pairs_from, literal_place}
use Rattle.page.proofs.Scan.{place_next}

-- ---- literals
pub length_literals : (page : List ℕ) (i n : ℕ) → length (literals page i n) ≡ n
unfolding literals
length_literals page i zero = refl
length_literals page i (suc n) = ap suc (length_literals page (i + 1) n)

pub in_literals : (page : List ℕ) (i n a : ℕ) → Memᴰ a (literals page i n) → (k : ℕ) × ((i ≤ k) × (k < i + n) × (a ≡ byte_at page k))
unfolding literals
in_literals page i zero a m = elim m [ ]
in_literals page i (suc n) a m =
    ⊎_elim (λ e. (i, (le_refl i, omega arith, e)))
    (λ t. let r = in_literals page (i + 1) n a t in (r.0, (omega (arith, r.1.0), omega (arith, r.1.1), r.1.2))) (Memᴰ.cases_cons m)

pub literals_in : (page : List ℕ) (i n k : ℕ) → i ≤ k → k < i + n → Memᴰ (byte_at page k) (literals page i n)
unfolding literals
literals_in page i zero k l h = absurd (omega arith)
literals_in page i (suc n) k l h = go (ℕ_discrete k i) (λ l h. literals_in page (i + 1) n k l h)
  where
    go : Dec (k ≡ i) → (i + 1 ≤ k → k < i + 1 + n → Memᴰ (byte_at page k) (literals page (i + 1) n))
        → Memᴰ (byte_at page k) (literals page i (suc n))
    go (yes e) rest = Memᴰ.head (ap (byte_at page) e)
    go (no e) rest = Memᴰ.tail (rest (omega arith) (omega arith))

-- ---- rows
pub place_up : (page : List ℕ) (r m : ℕ) → r ≤ m → literal_place page r ≤ literal_place page m
unfolding literal_place
place_up page r zero h = let z : r ≡ 0 = omega arith in rw z (le_refl (literal_place page 0))
place_up page r (suc m) h = go (dec_le r m) (place_up page r m)
  where
    go : Dec (r ≤ m) → (r ≤ m → literal_place page r ≤ literal_place page m) → literal_place page r ≤ literal_place page m + literals_of page m
    go (yes l) rest = omega (arith, rest l)
    go (no l) rest = let z : r ≡ suc m = omega arith in rw z (le_refl (literal_place page (suc m)))

pub in_rows : (page : List ℕ) (r i n : ℕ) (rule : Rule) → i ≡ literal_place page r → Memᴰ rule (rows_from page r i n)
    → (s : ℕ) × ((r ≤ s) × (s < r + n) × (rule ≡ rule_at page s (literal_place page s)))
unfolding rows_from
in_rows page r i zero rule at m = elim m [ ]
in_rows page r i (suc n) rule at m =
    ⊎_elim (λ e. (r, (le_refl r, omega arith, e ∙ ap (rule_at page r) at)))
    (λ t. let q = in_rows page (r + 1) (i + literals_of page r) n rule (rw (at, place_next page r)) t in
    (q.0, (omega (arith, q.1.0), omega (arith, q.1.1), q.1.2))) (Memᴰ.cases_cons m)

-- ---- pairs
pub in_pairs : (page : List ℕ) (i n : ℕ) (q : Pair) → Memᴰ q (pairs_from page i n)
    → (k : ℕ) × ((i ≤ k) × (k + 1 < i + 2 * n) × (q ≡ record { one = byte_at page k; other = byte_at page (k + 1) }))
unfolding pairs_from
in_pairs page i zero q m = elim m [ ]
in_pairs page i (suc n) q m =
    ⊎_elim (λ e. (i, (le_refl i, omega arith, e)))
    (λ t. let r = in_pairs page (i + 2) n q t in (r.0, (omega (arith, r.1.0), omega (arith, r.1.1), r.1.2))) (Memᴰ.cases_cons m)
