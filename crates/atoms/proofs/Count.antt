-- How many atoms a set has, and its lowest: the machine's counts of bits, in terms of membership. Assumes nothing.
use mathlib.Core.Path.{◌≡◌, refl, sym, ap, ◌∙◌, subst}
use Prim.Native.Nat.{ℕ, zero, suc, ◌+◌, ◌*◌, ◌/◌, ◌%◌, ◌^◌, ◌≤◌, ◌<◌}
use native.Mathlib.Nat.{mod-lt, zero-lt-suc, pow-suc}
use native.Mathlib.Omega.{arith}
use lib.Dec.{T, eqb}
use lib.Arith.{lt-one, lt_of_le-ne}
use lib.Bits.{or_lt}
use lib.Pow.{pow-lt}
use lib.Count.{ones, ones_step, ones-le, count_trailing_zeros, under}
use Rattle.atoms.specs.Atoms.{has, Inside, insert, how_many}
use Rattle.atoms.proofs.Bits.{two, has_low, has_next, both_below}

pub insert_lt : (k s j : ℕ) → s < 2 ^ k → j < k → insert s j < 2 ^ k
insert_lt k s j h l = or_lt k s (2 ^ j) h (pow-lt l)

low_le : (a b : ℕ) → (T (eqb a 1) → T (eqb b 1)) → a < 2 → b < 2 → a ≤ b
low_le a b f ha hb =
    two (λ x. (T (eqb x 1) → T (eqb b 1)) → x ≤ b) (λ g. omega arith)
    (λ g. two (λ y. T (eqb y 1) → 1 ≤ y) (λ e. absurd e) (λ e. omega arith) b hb (g tt)) a ha f

inside_half : (a b : ℕ) → Inside a b → Inside (a / 2) (b / 2)
inside_half a b f i h = subst T (has_next b i) (f (suc i) (subst T (sym (has_next a i)) h))

inside_low : (a b : ℕ) → Inside a b → a % 2 ≤ b % 2
inside_low a b f = low_le (a % 2) (b % 2) (λ h. subst T (has_low b) (f 0 (subst T (sym (has_low a)) h))) (mod-lt a (zero-lt-suc 1)) (mod-lt b (zero-lt-suc 1))

-- a part has no more atoms; one that has as many is the whole
pub ones_mono : (k a b : ℕ) → a < 2 ^ k → Inside a b → ones a ≤ ones b
ones_mono zero a b h f = omega (arith, ones-le 0 a h)
ones_mono (suc k) a b h f =
    let p : a < 2 ^ k * 2 = rw (← pow-suc 2 k) h in
    let ih = ones_mono k (a / 2) (b / 2) (omega arith) (inside_half a b f) in
    omega (arith, ones_step a, ones_step b, inside_low a b f)

pub ones_same : (k a b : ℕ) → a < 2 ^ k → b < 2 ^ k → Inside a b → ones b ≤ ones a → a ≡ b
ones_same zero a b h g f l = lt-one h ∙ sym (lt-one g)
ones_same (suc k) a b h g f l =
    let p : a < 2 ^ k * 2 = rw (← pow-suc 2 k) h in
    let q : b < 2 ^ k * 2 = rw (← pow-suc 2 k) g in
    let m = ones_mono k (a / 2) (b / 2) (omega arith) (inside_half a b f) in
    let o = inside_low a b f in
    let e : a / 2 ≡ b / 2 = ones_same k (a / 2) (b / 2) (omega arith) (omega arith) (inside_half a b f) (omega (arith, ones_step a, ones_step b)) in
    omega (arith, ones_step a, ones_step b, ap ones e)

-- the same of sets of any width; a part that is not the whole has fewer
pub many_mono : (a b : ℕ) → Inside a b → how_many a ≤ how_many b
many_mono a b f = ones_mono (a + b) a b (both_below a b).0 f

pub many_more : (a b : ℕ) → Inside a b → (a ≡ b → ⊥) → how_many a < how_many b
many_more a b f n = lt_of_le-ne (many_mono a b f) (λ e. n (ones_same (a + b) a b (both_below a b).0 (both_below a b).1 f (omega (arith, e))))

-- the lowest atom of a set that is not empty is in it, and none below
pub lowest_in : (k s : ℕ) → s < 2 ^ k → 0 < s → T (has s (count_trailing_zeros k s))
unfolding count_trailing_zeros
lowest_in zero s h p = absurd (omega arith)
lowest_in (suc k) s h p =
    go (s % 2) refl (mod-lt s (zero-lt-suc 1))
    (λ e. let q : s < 2 ^ k * 2 = rw (← pow-suc 2 k) h in lowest_in k (s / 2) (omega arith) (omega arith))
  where
    go : (d : ℕ) → s % 2 ≡ d → d < 2 → (s % 2 ≡ 0 → T (has (s / 2) (count_trailing_zeros k (s / 2)))) → T (has s (under d (count_trailing_zeros k (s / 2))))
    go zero e l ih = subst T (sym (has_next s (count_trailing_zeros k (s / 2)))) (ih e)
    go (suc zero) e l ih = subst T (sym (has_low s)) (subst (λ (x : ℕ). T (eqb x 1)) (sym e) tt)
    go (suc (suc d)) e l ih = absurd (omega arith)

pub lowest_first : (k s i : ℕ) → i < count_trailing_zeros k s → T (has s i) → ⊥
unfolding count_trailing_zeros
lowest_first zero s i h t = omega arith
lowest_first (suc k) s zero h t = go (s % 2) (mod-lt s (zero-lt-suc 1)) h (subst T (has_low s) t)
  where
    go : (d : ℕ) → d < 2 → 0 < under d (count_trailing_zeros k (s / 2)) → T (eqb d 1) → ⊥
    go zero l h t = t
    go (suc zero) l h t = omega arith
    go (suc (suc d)) l h t = omega arith
lowest_first (suc k) s (suc i) h t = go (s % 2) h (λ l. lowest_first k (s / 2) i l (subst T (has_next s i) t))
  where
    go : (d : ℕ) → suc i < under d (count_trailing_zeros k (s / 2)) → (i < count_trailing_zeros k (s / 2) → ⊥) → ⊥
    go zero h f = f (omega arith)
    go (suc d) h f = omega arith
