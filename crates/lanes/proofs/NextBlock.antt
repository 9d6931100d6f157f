-- The next block between low and high, by one addition: with ones in all places that are not free, a carry goes from a free place to the next free
-- one. Assumes nothing.
use mathlib.Core.Path.{◌≡◌, refl, sym, ap, ◌∙◌, subst}
use mathlib.Core.Bool.{Bool, true, false, ◌&&◌, ◌||◌, not, and-true}
use mathlib.Core.Logic.{⊎_elim}
use Prim.Native.Nat.{ℕ, zero, suc, ◌+◌, ◌-◌, ◌*◌, ◌/◌, ◌%◌, ◌^◌, ◌≤◌, ◌<◌}
use native.Mathlib.Nat.{mod-lt, zero-lt-suc, pow-suc}
use native.Mathlib.Omega.{arith}
use lib.Arith.{lt-one}
use lib.Bits.{bit_and, bit_or, or_shr, or_mod, or_zero_l, or_zero_r, or_add_and, or_lt, and_le_l, and_le_r}
use lib.Dec.{T, T_not}
use Rattle.atoms.specs.Atoms.{has, Inside, inside}
use Rattle.atoms.proofs.Truth.{or_l, or_r, or_cases, and_l, and_r, both}
use Rattle.atoms.proofs.Bits.{two, has_and, has_or, has_low, has_next, has_zero, has_ext, has_below, inside_both, inside_le, inside_test, test_inside}
use Rattle.lanes.proofs.Words.{has_complement}

-- ---- a carry past the places of f
inside_half : (a b : ℕ) → Inside a b → Inside (a / 2) (b / 2)
inside_half a b f i h = subst T (has_next b i) (f (suc i) (subst T (sym (has_next a i)) h))

inside_low : (a b : ℕ) → Inside a b → a % 2 ≤ b % 2
inside_low a b f =
    two (λ d. a % 2 ≡ d → d ≤ b % 2) (λ e. omega arith)
    (λ e. two (λ d. b % 2 ≡ d → 1 ≤ d) (λ z. absurd (no_bit z e)) (λ z. omega arith) (b % 2) (mod-lt b (zero-lt-suc 1)) refl)
    (a % 2) (mod-lt a (zero-lt-suc 1)) refl
  where
    no_bit : b % 2 ≡ 0 → a % 2 ≡ 1 → ⊥
    no_bit z e = subst T (has_low b ∙ ap (λ (d : ℕ). lib.Dec.eqb d 1) z) (f 0 (subst T (sym (has_low a ∙ ap (λ (d : ℕ). lib.Dec.eqb d 1) e)) tt))

or_whole : (a b : ℕ) → Inside b a → bit_or a b ≡ a
or_whole a b f = let e = or_add_and a b in let g : bit_and a b ≡ b = inside_both (bit_and a b) b (λ i t. and_r (has a i) (has b i) (subst T (has_and a b i) t)) (λ i t. subst T (sym (has_and a b i)) (both (has a i) (has b i) (f i t) t)) in omega arith

-- the halves of a union
or_parts : (a b : ℕ) → bit_or a b ≡ 2 * bit_or (a / 2) (b / 2) + bit_or (a % 2) (b % 2)
or_parts a b = let h : bit_or a b / 2 ≡ bit_or (a / 2) (b / 2) = or_shr a b 1 in let l : bit_or a b % 2 ≡ bit_or (a % 2) (b % 2) = or_mod a b 1 in omega arith

carry : (k y z f : ℕ) → y < 2 ^ k → Inside f y → Inside f z → y < z → bit_or (y + 1) f ≤ z
carry zero y z f h p q l =
    let e : y ≡ 0 = lt-one h in
    let m = inside_le f y p in
    let n : f ≡ 0 = omega arith in
    rw (n, or_zero_r (y + 1)) (omega arith)
carry (suc k) y z f h p q l =
    two (λ d. y % 2 ≡ d → bit_or (y + 1) f ≤ z) even (odd (λ a b. carry k (y / 2) (z / 2) (f / 2) a (inside_half f y p) (inside_half f z q) b)) (y % 2) (mod-lt y (zero-lt-suc 1)) refl
  where
    below : y < 2 ^ k * 2
    below = rw (← pow-suc 2 k) h

    even : y % 2 ≡ 0 → bit_or (y + 1) f ≤ z
    even e =
        let i = inside_low f y p in
        let a : (y + 1) / 2 ≡ y / 2 = omega arith in
        let b : (y + 1) % 2 ≡ 1 = omega arith in
        let c : f % 2 ≡ 0 = omega arith in
        let s : bit_or (y + 1) f ≡ 2 * (y / 2) + 1 = or_parts (y + 1) f ∙ rw (a, b, c, or_whole (y / 2) (f / 2) (inside_half f y p)) in
        omega arith

    odd : (y / 2 < 2 ^ k → y / 2 < z / 2 → bit_or (y / 2 + 1) (f / 2) ≤ z / 2) → y % 2 ≡ 1 → bit_or (y + 1) f ≤ z
    odd ih e =
        let i = inside_low f z q in
        let a : (y + 1) / 2 ≡ y / 2 + 1 = omega arith in
        let b : (y + 1) % 2 ≡ 0 = omega arith in
        let s : bit_or (y + 1) f ≡ 2 * bit_or (y / 2 + 1) (f / 2) + f % 2 = or_parts (y + 1) f ∙ rw (a, b, or_zero_l (f % 2)) in
        let r = let w = below in ih (omega arith) (omega arith) in
        omega arith

-- ---- the places that are not free, in ten bits
ten : (s i : ℕ) → i < 10 → has s i ≡ has (bit_and s 1023) i
ten s i l = sym (has_and s 1023 i ∙ ap (λ (b : Bool). has s i && b) (has_complement 10 0 i (omega arith) l ∙ ap (λ (b : Bool). not b) (has_zero i)) ∙ and-true (has s i))

abbrev pub shut : ℕ → ℕ → ℕ
shut low high = bit_or low (1023 - bit_and high 1023)

module _ (low high : ℕ) where
  in_shut : (i : ℕ) → i < 10 → T (has (shut low high) i) → (T (has low i) → ⊥) → T (has high i) → ⊥
  in_shut i l t n u =
      ⊎_elim n (λ v. T_not (has (bit_and high 1023) i) (subst T (has_complement 10 (bit_and high 1023) i (omega (arith, and_le_r high 1023)) l) v) (subst T (low_bits i l) u))
      (or_cases (has low i) (has (1023 - bit_and high 1023) i) (subst T (has_or low (1023 - bit_and high 1023) i) t))
    where
      low_bits : (i : ℕ) → i < 10 → has high i ≡ has (bit_and high 1023) i
      low_bits i l = ten high i l

  module _ (low_small : low < 1024) where
    shut_small : shut low high < 1024
    shut_small = or_lt 10 low (1023 - bit_and high 1023) low_small (omega arith)

    -- a block between has just the places of low among these
    module _ (s : ℕ) (h : s < 1024) (p : T (inside low s)) (q : T (inside s high)) where
      shut_common : bit_and s (shut low high) ≡ low
      shut_common =
          inside_both (bit_and s (shut low high)) low
          (λ i t. let u : T (has s i && has (shut low high) i) = subst T (has_and s (shut low high) i) t in
          pick i (and_l (has s i) (has (shut low high) i) u) (and_r (has s i) (has (shut low high) i) u) (has low i) refl)
          (λ i t. subst T (sym (has_and s (shut low high) i)) (both (has s i) (has (shut low high) i) (test_inside low s p i t) (subst T (sym (has_or low (1023 - bit_and high 1023) i)) (or_l (has low i) (has (1023 - bit_and high 1023) i) t))))
        where
          pick : (i : ℕ) → T (has s i) → T (has (shut low high) i) → (b : Bool) → has low i ≡ b → T (has low i)
          pick i t u true e = subst T (sym e) tt
          pick i t u false e = absurd (in_shut i (has_below 10 s i h t) u (λ v. subst T e v) (test_inside s high q i t))

      pub shut_sum : bit_or s (shut low high) + low ≡ s + shut low high
      shut_sum = let e = or_add_and s (shut low high) in let c = shut_common in omega arith

-- ---- the block that the code finds
module _ (b low high : ℕ) (h : b < 1024) (p : T (inside low b)) (q : T (inside b high)) where
  abbrev x : ℕ
  x = bit_or b (shut low high) + 1

  low_small : low < 1024
  low_small = let l = inside_le low b (test_inside low b p) in omega arith

  pub shut_below : bit_or b (shut low high) < 1024
  shut_below = or_lt 10 b (shut low high) h (shut_small low high low_small)

  shut_in : (s : ℕ) → Inside (shut low high) (bit_or s (shut low high))
  shut_in s i t = subst T (sym (has_or s (shut low high) i)) (or_r (has s i) (has (shut low high) i) t)

  module _ (c : ℕ) (l : b < c) (k : c < 1024) (u : T (inside low c)) (v : T (inside c high)) where
    lower : bit_or b (shut low high) < bit_or c (shut low high)
    lower = let e = shut_sum low high low_small b h p q in let f = shut_sum low high low_small c k u v in omega arith

    pub not_last : x < 1024
    not_last = let m = lower in let n = or_lt 10 c (shut low high) k (shut_small low high low_small) in omega arith

    pub carried : bit_or x (shut low high) ≤ bit_or c (shut low high)
    carried =
        (carry 10 (bit_or b (shut low high)) (bit_or c (shut low high)) (shut low high) shut_below (shut_in b) (shut_in c) lower)

  module _ (m : x < 1024) where
    abbrev next : ℕ
    next = bit_or (bit_and x high) low

    next_small : next < 1024
    next_small = or_lt 10 (bit_and x high) low (let n = and_le_l x high in omega arith) low_small

    next_low : T (inside low next)
    next_low = inside_test low (bit_or (bit_and x high) low) (λ i t. subst T (sym (has_or (bit_and x high) low i)) (or_r (has (bit_and x high) i) (has low i) t))

    next_high : T (inside next high)
    next_high =
        inside_test (bit_or (bit_and x high) low) high
        (λ i t. ⊎_elim (λ w. and_r (has x i) (has high i) (subst T (has_and x high i) w)) (λ w. test_inside b high q i (test_inside low b p i w))
        (or_cases (has (bit_and x high) i) (has low i) (subst T (has_or (bit_and x high) low i) t)))

    next_shut : bit_or next (shut low high) ≡ bit_or x (shut low high)
    next_shut =
        has_ext 10 (bit_or (bit_or (bit_and x high) low) (shut low high)) (bit_or x (shut low high)) (or_lt 10 next (shut low high) next_small (shut_small low high low_small))
        (or_lt 10 x (shut low high) m (shut_small low high low_small))
        (λ i l. has_or (bit_or (bit_and x high) low) (shut low high) i ∙ rw (has_or (bit_and x high) low i, has_and x high i, has_or x (shut low high) i, has_or low (1023 - bit_and high 1023) i, has_complement 10 (bit_and high 1023) i (omega (arith, and_le_r high 1023)) l, ← ten high i l)
        (table (has x i) (has high i) (has low i)))
      where
        table : (x h l : Bool) → (((x && h) || l) || (l || not h)) ≡ (x || (l || not h))
        table true true true = refl
        table true true false = refl
        table true false true = refl
        table true false false = refl
        table false true true = refl
        table false true false = refl
        table false false true = refl
        table false false false = refl

    next_sum : bit_or x (shut low high) + low ≡ next + shut low high
    next_sum = ap (λ (y : ℕ). y + low) (sym next_shut) ∙ shut_sum low high low_small next next_small next_low next_high

    pub next_found : (b < next) × (next ≤ 1024) × ((c : ℕ) → b < c → c < next → T (inside low c) → T (inside c high) → ⊥) × (next < 1024 → T (inside low next) × T (inside next high))
    next_found = (
      let e = shut_sum low high low_small b h p q in
          let f = next_sum in
          let g = or_add_and x (shut low high) in
          let k = and_le_r x (shut low high) in
          omega arith,
      let n = next_small in omega arith,
      λ c l k u v. let n = next_small in let d = carried c l (omega arith) u v in let f = next_sum in let g = shut_sum low high low_small c (omega arith) u v in omega arith,
      λ n. (next_low, next_high),
    )

  pub none_found : 1024 ≤ x → (b < 1024) × (1024 ≤ 1024) × ((c : ℕ) → b < c → c < 1024 → T (inside low c) → T (inside c high) → ⊥) × (1024 < 1024 → T (inside low 1024) × T (inside 1024 high))
  none_found n = (h, omega arith, λ c l k u v. let m = not_last c l k u v in omega arith, λ m. absurd (omega arith))
