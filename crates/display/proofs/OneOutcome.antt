-- A set's outcomes by the machine's counts of bits: its common part with the four has as many bits as the set has outcomes, and its lowest bit is the
-- first of them. That part has the set's outcomes and is below 16; the rest is computed for all 16. Assumes nothing.
use mathlib.Core.Path.{◌≡◌, refl, ap, ◌∙◌}
use mathlib.Core.Bool.{Bool, true, false, ◌&&◌}
use mathlib.Core.Logic.{◌↔◌, ⊎_elim}
use mathlib.Core.List.Memᴰ
use mathlib.Core.List.{List, [], ◌∷◌, Memᴰ}
use Prim.Native.Nat.{ℕ, zero, suc, ◌<◌}
use native.Mathlib.Omega.{arith}
use lib.Dec.{T, eqb, eqb→eq}
use lib.ListN.{length}
use lib.Bits.{and_le_r}
use lib.Count.{ones, count_trailing_zeros}
use borrow.Author.Tests.{eqb-true, eq-eqb}
use Rattle.atoms.specs.Atoms.{has, common, how_many, lowest}
use Rattle.atoms.proofs.Bits.{has_and}
use Rattle.atoms.proofs.Truth.{and_l, and_r}
use Rattle.lpod.specs.Lists.{every, keep, numbers, below, Rising}
use Rattle.lpod.proofs.Lists.{every_at, keep_in, in_keep, in_numbers, numbers_in, numbers_rise, keep_rises}
use Rattle.display.specs.Shows.{outcomes, one_chosen, first_of, shown_at}
use Rattle.display.specs.declared.Readings.{Readings}
use Rattle.display.specs.declared.Shown.TheVariants.{NoNumber}

-- the set's common part with the four has the same outcomes
same_outcomes : (s : ℕ) → outcomes (common s 15) ≡ outcomes s
unfolding outcomes keep numbers has
same_outcomes s = rw (at 0 refl, at 1 refl, at 2 refl, at 3 refl)
  where
    and-true : (a b : Bool) → b ≡ true → (a && b) ≡ a
    and-true true b e = e
    and-true false b e = refl

    at : (i : ℕ) → has 15 i ≡ true → has (common s 15) i ≡ has s i
    at i e = has_and s 15 i ∙ and-true (has s i) (has 15 i) e

-- of a number below 16: how many outcomes, and the first of them
counts : ℕ → Bool
counts v = eqb (how_many v) (length (outcomes v)) && eqb (lowest v) (first_of (outcomes v))

counts_each : T (every counts (below 16))
unfolding counts ones count_trailing_zeros outcomes first_of keep has numbers every
counts_each = tt

module _ (s : ℕ) where
  part : ℕ
  part = common s 15

  counted : T (counts part)
  unfolding part
  counted = every_at counts (below 16) counts_each part (numbers_in 0 16 part (omega arith) (omega (arith, and_le_r s 15)))

  many : Bool
  many = eqb (how_many part) (length (outcomes part))

  first : Bool
  first = eqb (lowest part) (first_of (outcomes part))

  pub how_many_chosen : how_many (common s 15) ≡ length (outcomes s)
  unfolding counts many first part
  how_many_chosen = eqb→eq (how_many part) (length (outcomes part)) (and_l many first counted) ∙ ap length (same_outcomes s)

  pub lowest_chosen : lowest (common s 15) ≡ first_of (outcomes s)
  unfolding counts many first part
  lowest_chosen = eqb→eq (lowest part) (first_of (outcomes part)) (and_r many first counted) ∙ ap first_of (same_outcomes s)

-- beyond the third outcome no reading stands
pub last_outcome : (n : ℕ) (r : Readings) → (n ≡ 0 → ⊥) → (n ≡ 1 → ⊥) → (n ≡ 2 → ⊥) → NoNumber ≡ shown_at n r
unfolding shown_at
last_outcome zero r a b c = absurd (a refl)
last_outcome (suc zero) r a b c = absurd (b refl)
last_outcome (suc (suc zero)) r a b c = absurd (c refl)
last_outcome (suc (suc (suc n))) r a b c = refl

-- ---- exactly one of the four
-- a is the one outcome that the set holds
pub record OnlyOutcome (set a : ℕ) : Type 0 where
  pub outcome : a < 4
  pub held : T (has set a)
  pub alone : (b : ℕ) → b < 4 → T (has set b) → b ≡ a

module _ (set : ℕ) where
  in_outcomes : (a : ℕ) → Memᴰ a (outcomes set) ↔ ((a < 4) × T (has set a))
  unfolding outcomes
  in_outcomes a = (
    (λ m. let i = in_keep (has set) (below 4) a m in ((in_numbers 0 4 a i.0).1, i.1)),
    (λ h. keep_in (has set) (below 4) a (numbers_in 0 4 a (omega arith) h.0) h.1),
  )

  pub one_is_only : one_chosen set ≡ true → OnlyOutcome set (first_of (outcomes set))
  unfolding one_chosen first_of
  one_is_only t = go (outcomes set) (λ a. in_outcomes a) (eqb-true (length (outcomes set)) 1 t)
    where
      go : (l : List ℕ) → ((a : ℕ) → Memᴰ a l ↔ ((a < 4) × T (has set a))) → length l ≡ 1 → OnlyOutcome set (first_of l)
      go [] f e = absurd (omega arith)
      go (a ∷ []) f e =
          let h = (f a).0 (Memᴰ.head refl) in
          record { outcome = h.0; held = h.1; alone = λ b k u. ⊎_elim (λ q. q) (λ m. elim m [ ]) (Memᴰ.cases_cons ((f b).1 (k, u))) }
      go (a ∷ b ∷ l) f e = absurd (omega arith)

  pub only_is_one : (a : ℕ) → OnlyOutcome set a → one_chosen set ≡ true
  unfolding one_chosen outcomes
  only_is_one a o = eq-eqb (length (outcomes set)) 1 (go (outcomes set) (λ b. in_outcomes b) (keep_rises (has set) (below 4) (numbers_rise 0 4)))
    where
      go : (l : List ℕ) → ((b : ℕ) → Memᴰ b l ↔ ((b < 4) × T (has set b))) → Rising l → length l ≡ 1
      go [] f rise = elim ((f a).1 (o.outcome, o.held)) [ ]
      go (x ∷ []) f rise = refl
      go (x ∷ y ∷ l) f rise =
          let h = (f x).0 (Memᴰ.head refl) in
          let k = (f y).0 (Memᴰ.tail (Memᴰ.head refl)) in
          absurd (omega (arith, rise.0 y (Memᴰ.head refl), o.alone x h.0 h.1, o.alone y k.0 k.1))
