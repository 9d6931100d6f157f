-- The head atoms of a row in one number, four bits each: made from the last atom to the first, and read back from the first on. Numbers below 16
-- lose nothing by it. Assumes nothing.
use mathlib.Core.Path.{◌≡◌, refl, ap}
use mathlib.Core.List.{List, [], ◌∷◌, Memᴰ}
use Prim.Native.Nat.{ℕ, ◌+◌, ◌*◌, ◌/◌, ◌%◌, ◌^◌, ◌≤◌, ◌<◌}
use native.Mathlib.Nat.{pow-suc, pow-le-pow_right, lt_of_lt_of_le}
use native.Mathlib.Omega.{arith}
use lib.ListN.{length}
use Rattle.words.specs.Coded.{packed, digits}

-- ---- as code makes it, in 24 bits: one atom more at the front
pub packed_step : (l rest : List ℕ) (a h : ℕ) → l ≡ a ∷ rest → h ≡ packed rest % 16777216 → (a % 16 + 16 * h) % 16777216 ≡ packed l % 16777216
unfolding packed
packed_step l rest a h e eh = rw e (omega arith)

pub packed_none : (l : List ℕ) → l ≡ [] → 0 ≡ packed l % 16777216
unfolding packed
packed_none l e = rw e

-- ---- read back
pub packed_below : (l : List ℕ) → packed l < 16 ^ length l
unfolding packed
packed_below [] = omega arith
packed_below (a ∷ l) = rw (pow-suc 16 (length l)) (omega (arith, packed_below l))

pub digits_back : (l : List ℕ) → ((a : ℕ) → Memᴰ a l → a < 16) → digits (length l) (packed l) ≡ l
unfolding digits packed
digits_back [] h = refl
digits_back (a ∷ l) h =
    let k : a < 16 = h a (Memᴰ.head refl) in
    let lo : (a % 16 + 16 * packed l) % 16 ≡ a = omega arith in
    let hi : (a % 16 + 16 * packed l) / 16 ≡ packed l = omega arith in
    rw (lo, hi) (ap (λ (r : List ℕ). a ∷ r) (digits_back l (λ b m. h b (Memᴰ.tail m))))

-- six head atoms fit into 24 bits
pub packed_small : (l : List ℕ) → length l ≤ 6 → packed l < 16777216
packed_small l h = lt_of_lt_of_le (packed_below l) (pow-le-pow_right {n = 16} (omega arith) h)
