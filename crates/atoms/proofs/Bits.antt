-- The laws of bits, each once over the index: what an atom in a union, a common part, a single atom is; sets with the same atoms are
-- the same number; a part is no larger a number. By the lowest bit and the rest. Assumes nothing.
use mathlib.Core.Path.{◌≡◌, refl, sym, ap, ◌∙◌, subst}
use mathlib.Core.Bool.{Bool, true, false, ◌&&◌, ◌||◌, cond, true≢false, false≢true}
use mathlib.Core.Logic.{◌⊎◌, inl, inr, ⊎_elim}
use Prim.Native.Nat.{ℕ, zero, suc, ◌+◌, ◌*◌, ◌/◌, ◌%◌, ◌^◌, ◌≤◌, ◌<◌, suc-le-suc}
use native.Mathlib.Nat.{mod-lt, zero-lt-suc, zero-div, div-eq_of_lt, lt_of_lt_of_le, lt_of_not-le, div-one, pow-suc, mul-mod_left, mul-div_cancel, one-mul}
use native.Mathlib.Numerals.{one-add}
use lib.Pow.{pow_mono, shr-shr, shl_exact}
use lib.Arith.{lt-one}
use native.Mathlib.Omega.{arith}
use lib.Dec.{T, eqb, ltb, eqb→eq, eqb_refl, lt→ltb, eqb-zero-suc, eqb-suc-zero, eqb-suc-suc}
use lib.Bits.{bit_and, bit_or, and_shr, or_shr, and_mod, or_mod, and_le_r}
use Rattle.atoms.specs.Atoms.{has, insert, with_atom, Inside, inside}
use Rattle.atoms.proofs.Truth.{or_l, or_r, or_cases, yes_true, same_yes}

-- a number below 2 is 0 or 1
pub two : (P : ℕ → Type 0) → P 0 → P 1 → (n : ℕ) → n < 2 → P n
two P p q zero h = p
two P p q (suc zero) h = q
two P p q (suc (suc n)) h = absurd (omega arith)

-- an operation on bits that agrees with one on yes and no at 0 and 1 agrees with it on the lowest bits of any two numbers
by_bits : (f : ℕ → ℕ → ℕ) (g : Bool → Bool → Bool) → eqb (f 0 0) 1 ≡ g false false → eqb (f 0 1) 1 ≡ g false true
    → eqb (f 1 0) 1 ≡ g true false → eqb (f 1 1) 1 ≡ g true true → (a b : ℕ) → eqb (f (a % 2) (b % 2)) 1 ≡ g (eqb (a % 2) 1) (eqb (b % 2) 1)
by_bits f g p q r s a b =
    two (λ x. eqb (f x (b % 2)) 1 ≡ g (eqb x 1) (eqb (b % 2) 1)) (at 0 p q) (at 1 r s) (a % 2) (mod-lt a (zero-lt-suc 1))
  where
    at : (x : ℕ) → eqb (f x 0) 1 ≡ g (eqb x 1) false → eqb (f x 1) 1 ≡ g (eqb x 1) true → eqb (f x (b % 2)) 1 ≡ g (eqb x 1) (eqb (b % 2) 1)
    at x u v = two (λ y. eqb (f x y) 1 ≡ g (eqb x 1) (eqb y 1)) u v (b % 2) (mod-lt b (zero-lt-suc 1))

pub has_and : (a b i : ℕ) → has (bit_and a b) i ≡ (has a i && has b i)
unfolding has
has_and a b i = rw (and_shr, and_mod (a / 2 ^ i) (b / 2 ^ i) 1) (by_bits bit_and ◌&&◌ refl refl refl refl (a / 2 ^ i) (b / 2 ^ i))

pub has_or : (a b i : ℕ) → has (bit_or a b) i ≡ (has a i || has b i)
unfolding has
has_or a b i = rw (or_shr, or_mod (a / 2 ^ i) (b / 2 ^ i) 1) (by_bits bit_or ◌||◌ refl refl refl refl (a / 2 ^ i) (b / 2 ^ i))

-- ---- one atom: 2 ^ j
pub has_zero : (i : ℕ) → has 0 i ≡ false
unfolding has
has_zero i = rw (zero-div (2 ^ i)) refl

-- a set below 2 ^ k holds no atom at k or above
pub has_high : (k s i : ℕ) → s < 2 ^ k → k ≤ i → has s i ≡ false
unfolding has
has_high k s i h le = rw (div-eq_of_lt (lt_of_lt_of_le h (pow_mono le))) refl

-- the lowest bit, and the rest
pub has_low : (s : ℕ) → has s 0 ≡ eqb (s % 2) 1
unfolding has
has_low s = rw (div-one s) refl

pub has_next : (s i : ℕ) → has s (suc i) ≡ has (s / 2) i
unfolding has
has_next s i = ap (λ (x : ℕ). eqb (x % 2) 1) (ap (λ (n : ℕ). s / 2 ^ n) (sym (one-add i)) ∙ sym (shr-shr s 1 i))

bit_eq : (a b : ℕ) → eqb (a % 2) 1 ≡ eqb (b % 2) 1 → a % 2 ≡ b % 2
bit_eq a b =
    two (λ x. eqb x 1 ≡ eqb (b % 2) 1 → x ≡ b % 2)
    (two (λ y. eqb 0 1 ≡ eqb y 1 → 0 ≡ y) (λ e. refl) (λ e. absurd (false≢true e)) (b % 2) (mod-lt b (zero-lt-suc 1)))
    (two (λ y. eqb 1 1 ≡ eqb y 1 → 1 ≡ y) (λ e. absurd (true≢false e)) (λ e. refl) (b % 2) (mod-lt b (zero-lt-suc 1)))
    (a % 2) (mod-lt a (zero-lt-suc 1))

-- sets with the same atoms are the same number
pub has_ext : (k a b : ℕ) → a < 2 ^ k → b < 2 ^ k → ((i : ℕ) → i < k → has a i ≡ has b i) → a ≡ b
has_ext zero a b ha hb f = lt-one ha ∙ sym (lt-one hb)
has_ext (suc k) a b ha hb f =
    let lo : a % 2 ≡ b % 2 = bit_eq a b (sym (has_low a) ∙ f 0 (zero-lt-suc k) ∙ has_low b) in
    let pa : a < 2 ^ k * 2 = rw (← pow-suc 2 k) ha in
    let pb : b < 2 ^ k * 2 = rw (← pow-suc 2 k) hb in
    let hi : a / 2 ≡ b / 2 = has_ext k (a / 2) (b / 2) (omega arith) (omega arith) (λ i h. sym (has_next a i) ∙ f (suc i) (suc-le-suc h) ∙ has_next b i) in
    omega arith

pub has_single : (j i : ℕ) → has (2 ^ j) i ≡ eqb i j
has_single zero zero = has_low 1
has_single zero (suc i) = has_next 1 i ∙ has_zero i ∙ sym (eqb-suc-zero i)
has_single (suc j) zero = has_low (2 ^ suc j) ∙ rw (pow-suc, mul-mod_left) (sym (eqb-zero-suc j))
has_single (suc j) (suc i) =
    has_next (2 ^ suc j) i ∙ ap (λ (x : ℕ). has x i) (rw (pow-suc) (mul-div_cancel (2 ^ j) (zero-lt-suc 1))) ∙ has_single j i ∙ sym (eqb-suc-suc i j)

pub has_insert : (s j i : ℕ) → has (insert s j) i ≡ (has s i || eqb i j)
has_insert s j i = has_or s (2 ^ j) i ∙ ap (λ (b : Bool). has s i || b) (has_single j i)

imp_and : (x y : Bool) → (T x → T y) → (x && y) ≡ x
imp_and true true f = refl
imp_and true false f = absurd (f tt)
imp_and false y f = refl

and_imp : (x y : Bool) → (x && y) ≡ x → T x → T y
and_imp true true e t = tt
and_imp true false e t = absurd (false≢true e)
and_imp false y e t = absurd t

lt_pow : (n : ℕ) → n < 2 ^ n
lt_pow zero = omega arith
lt_pow (suc n) = rw (pow-suc 2 n) (let h = lt_pow n in omega arith)

-- two numbers of any width: both are below a power of 2
pub both_below : (a b : ℕ) → (a < 2 ^ (a + b)) × (b < 2 ^ (a + b))
both_below a b = (lt_of_lt_of_le (lt_pow a) (pow_mono (omega arith)), lt_of_lt_of_le (lt_pow b) (pow_mono (omega arith)))

pub same_atoms : (a b : ℕ) → ((i : ℕ) → has a i ≡ has b i) → a ≡ b
same_atoms a b f = has_ext (a + b) a b (both_below a b).0 (both_below a b).1 (λ i l. f i)

pub inside_both : (a b : ℕ) → Inside a b → Inside b a → a ≡ b
inside_both a b f g = same_atoms a b (λ i. same_yes (has a i) (has b i) (f i) (g i))

pub inside_and : (a b : ℕ) → Inside a b → bit_and a b ≡ a
inside_and a b f = same_atoms (bit_and a b) a (λ i. has_and a b i ∙ imp_and (has a i) (has b i) (f i))

pub and_inside : (a b : ℕ) → bit_and a b ≡ a → Inside a b
and_inside a b e i = and_imp (has a i) (has b i) (sym (has_and a b i) ∙ ap (λ (x : ℕ). has x i) e)

-- a part is no larger a number
pub inside_le : (a b : ℕ) → Inside a b → a ≤ b
inside_le a b f = rw (← inside_and a b f) (and_le_r a b)

-- what `1 << i` is in 16 bits
pub shl_single : (i : ℕ) → i < 16 → 1 * 2 ^ i % 65536 ≡ 2 ^ i
shl_single i h = shl_exact 1 i 16 (omega arith) (omega arith) ∙ one-mul (2 ^ i)

-- the test for a part says what it should
pub inside_test : (a b : ℕ) → Inside a b → T (inside a b)
unfolding inside
inside_test a b f = subst (λ (x : ℕ). T (eqb x a)) (sym (inside_and a b f)) (eqb_refl a)

pub test_inside : (a b : ℕ) → T (inside a b) → Inside a b
unfolding inside
test_inside a b t = and_inside a b (eqb→eq (bit_and a b) a t)

-- ---- one more atom
pub in_insert : (s j i : ℕ) → T (has s i) → T (has (insert s j) i)
in_insert s j i h = subst T (sym (has_insert s j i)) (or_l (has s i) (eqb i j) h)

pub at_insert : (s j : ℕ) → T (has (insert s j) j)
at_insert s j = subst T (sym (has_insert s j j)) (or_r (has s j) (eqb j j) (eqb_refl j))

pub of_insert : (s j i : ℕ) → T (has (insert s j) i) → T (has s i) ⊎ (i ≡ j)
of_insert s j i h = ⊎_elim (λ x. inl x) (λ x. inr (eqb→eq i j x)) (or_cases (has s i) (eqb i j) (subst T (has_insert s j i) h))

-- an atom of a set of k bits is below k; so `with_atom` puts in any atom that a set of 16 bits has
pub has_below : (k s i : ℕ) → s < 2 ^ k → T (has s i) → i < k
has_below k s i h t = lt_of_not-le (λ l. subst T (has_high k s i h l) t)

pub with_insert : (s j : ℕ) → j < 16 → with_atom s j ≡ insert s j
unfolding with_atom
with_insert s j h = ap (λ (b : Bool). cond b (insert s j) s) (yes_true (ltb j 16) (lt→ltb j 16 h))
