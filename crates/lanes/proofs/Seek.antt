-- The laws of searches among the sets: what is found passes, nothing before it does, and what does not pass may be left out; and of all that
-- pass, one after the other. By induction on how many numbers are left. Assumes nothing.
use mathlib.Core.Path.{◌≡◌, refl, sym, ap, ◌∙◌, subst}
use mathlib.Core.Bool.{Bool, true, false, cond}
use mathlib.Core.List.{[], ◌∷◌}
use Prim.Native.Nat.{ℕ, zero, suc, ◌+◌, ◌-◌, ◌≤◌, ◌<◌}
use native.Mathlib.Decide.{ℕ_discrete, dec_le}
use native.Mathlib.Nat.{le_refl}
use native.Mathlib.Omega.{arith}
use lib.Dec.{T}
use lib.ListN.{length}
use Rattle.lpod.specs.Lists.{keep, numbers}
use Rattle.lpod.proofs.Lists.{keep_length, numbers_next, numbers_done}
use Rattle.atoms.proofs.Truth.{yes_true, no_false, true_yes}
use Rattle.lanes.specs.Seek.{seek, next_from, all_from}

pub numbers_length : (i n : ℕ) → length (numbers i n) ≡ n
unfolding numbers
numbers_length i zero = refl
numbers_length i (suc n) = ap suc (numbers_length (suc i) n)

module _ (q : ℕ → Bool) where
  -- no number from i on and below j passes
  abbrev pub NoneBetween : ℕ → ℕ → Type 0
  NoneBetween i j = (s : ℕ) → i ≤ s → s < j → T (q s) → ⊥

  seek_ge : (i n : ℕ) → i ≤ seek q i n
  unfolding seek
  seek_ge i zero = le_refl i
  seek_ge i (suc n) = go (q i) (seek_ge (i + 1) n)
    where
      go : (b : Bool) → i + 1 ≤ seek q (i + 1) n → i ≤ cond b i (seek q (i + 1) n)
      go true h = omega arith
      go false h = omega arith

  seek_le : (i n : ℕ) → seek q i n ≤ i + n
  unfolding seek
  seek_le i zero = omega arith
  seek_le i (suc n) = go (q i) (seek_le (i + 1) n)
    where
      go : (b : Bool) → seek q (i + 1) n ≤ i + 1 + n → cond b i (seek q (i + 1) n) ≤ i + suc n
      go true h = omega arith
      go false h = omega arith

  seek_hit : (i n : ℕ) → seek q i n < i + n → T (q (seek q i n))
  unfolding seek
  seek_hit i zero h = absurd (omega arith)
  seek_hit i (suc n) h = go (q i) refl h (seek_hit (i + 1) n)
    where
      go : (b : Bool) → q i ≡ b → cond b i (seek q (i + 1) n) < i + suc n → (seek q (i + 1) n < i + 1 + n → T (q (seek q (i + 1) n)))
          → T (q (cond b i (seek q (i + 1) n)))
      go true e h ih = true_yes e
      go false e h ih = ih (omega arith)

  seek_miss : (i n : ℕ) → NoneBetween i (seek q i n)
  unfolding seek
  seek_miss i zero s l h t = omega arith
  seek_miss i (suc n) s l h t = go (q i) refl h (λ l k. seek_miss (i + 1) n s l k t) (ℕ_discrete s i)
    where
      go : (b : Bool) → q i ≡ b → s < cond b i (seek q (i + 1) n) → (i + 1 ≤ s → s < seek q (i + 1) n → ⊥) → Dec (s ≡ i) → ⊥
      go true e h ih d = omega arith
      go false e h ih (yes p) = subst T (ap q p ∙ e) t
      go false e h ih (no p) = ih (omega arith) h

  -- what is found passes, is no set where nothing does, and nothing before it passes
  pub next_ge : (i : ℕ) → i ≤ next_from q i
  unfolding next_from
  next_ge i = seek_ge i (65536 - i)

  pub next_le : (i : ℕ) → i ≤ 65536 → next_from q i ≤ 65536
  unfolding next_from
  next_le i h = omega (arith, seek_le i (65536 - i))

  pub next_hit : (i : ℕ) → next_from q i < 65536 → T (q (next_from q i))
  unfolding next_from
  next_hit i h = seek_hit i (65536 - i) (omega (arith, seek_ge i (65536 - i)))

  pub next_passes : (i m : ℕ) → m ≡ next_from q i → m < 65536 → T (q m)
  next_passes i m e l = rw e (next_hit i (rw (← e) l))

  pub next_miss : (i : ℕ) → NoneBetween i (next_from q i)
  unfolding next_from
  next_miss i = seek_miss i (65536 - i)

  -- past the last set a search stays where it is
  pub next_past : (i : ℕ) → 65536 ≤ i → next_from q i ≡ i
  unfolding next_from seek
  next_past i h = let e : 65536 - i ≡ 0 = omega arith in ap (seek q i) e

  -- what is below the place found and what is not: so a number with these properties is what is found
  pub next_is : (i m : ℕ) → i ≤ m → m < 65536 → NoneBetween i m → T (q m) → next_from q i ≡ m
  next_is i m l h f t = go (dec_le (next_from q i) m) (dec_le m (next_from q i))
    where
      go : Dec (next_from q i ≤ m) → Dec (m ≤ next_from q i) → next_from q i ≡ m
      go (no a) d = absurd (next_miss i m l (omega arith) t)
      go (yes a) (no b) = absurd (f (next_from q i) (next_ge i) (omega arith) (next_hit i (omega arith)))
      go (yes a) (yes b) = omega arith

  pub next_at : (m : ℕ) → m < 65536 → T (q m) → next_from q m ≡ m
  next_at m h t = next_is m m (le_refl m) h (λ s l k. absurd (omega arith)) t

  pub next_none : (i : ℕ) → i ≤ 65536 → NoneBetween i 65536 → next_from q i ≡ 65536
  next_none i l f = go (dec_le 65536 (next_from q i))
    where
      go : Dec (65536 ≤ next_from q i) → next_from q i ≡ 65536
      go (yes a) = omega (arith, next_le i l)
      go (no a) = absurd (f (next_from q i) (next_ge i) (omega arith) (next_hit i (omega arith)))

  -- what does not pass may be left out
  pub next_skip : (i j : ℕ) → i ≤ j → j ≤ 65536 → NoneBetween i j → next_from q i ≡ next_from q j
  next_skip i j l h f = go (dec_le 65536 (next_from q j))
    where
      none : NoneBetween i (next_from q j)
      none s a b t = part (dec_le j s)
        where
          part : Dec (j ≤ s) → ⊥
          part (yes c) = next_miss j s c b t
          part (no c) = f s a (omega arith) t

      go : Dec (65536 ≤ next_from q j) → next_from q i ≡ next_from q j
      go (yes a) = let e : next_from q j ≡ 65536 = omega (arith, next_le j h) in next_none i (omega arith) (subst (NoneBetween i) e none) ∙ sym e
      go (no a) = next_is i (next_from q j) (omega (arith, next_ge j)) (omega arith) none (next_hit j (omega arith))

  -- ---- all that pass
  pub all_past : (i : ℕ) → 65536 ≤ i → all_from q i ≡ []
  unfolding all_from keep
  all_past i h = ap (keep q) (numbers_done i 65536 h)

  all_cons : (i : ℕ) → i < 65536 → all_from q i ≡ cond (q i) (i ∷ all_from q (i + 1)) (all_from q (i + 1))
  unfolding all_from keep
  all_cons i h = ap (keep q) (numbers_next i 65536 h)

  pub all_here : (i : ℕ) → i < 65536 → T (q i) → all_from q i ≡ i ∷ all_from q (i + 1)
  all_here i h t = all_cons i h ∙ rw (yes_true (q i) t)

  all_skip : (n i j : ℕ) → j ≡ i + n → j ≤ 65536 → NoneBetween i j → all_from q i ≡ all_from q j
  all_skip zero i j e h f = ap (all_from q) (omega arith)
  all_skip (suc n) i j e h f =
      all_cons i (omega arith) ∙ rw (no_false (q i) (f i (le_refl i) (omega arith))) (all_skip n (i + 1) j (omega arith) h (λ s l. f s (omega arith)))

  -- all from i on, m being the least of them: m, and all from the next one on
  pub all_first : (i m : ℕ) → i ≤ 65536 → m ≡ next_from q i → all_from q i ≡ all_from q m
  all_first i m l e =
      let a : i ≤ m = rw e (next_ge i) in
      let b : m ≤ 65536 = rw e (next_le i l) in
      all_skip (m - i) i m (omega arith) b (rw e (next_miss i))

  -- no more than there are sets
  pub all_length : (i : ℕ) → length (all_from q i) ≤ 65536 - i
  unfolding all_from
  all_length i = omega (arith, keep_length q (numbers i (65536 - i)), numbers_length i (65536 - i))

-- a search may begin at the first that passes a test which all that is sought passes
pub next_within : (q passes : ℕ → Bool) → ((s : ℕ) → T (q s) → T (passes s)) → (i m : ℕ) → m ≡ next_from passes i → next_from q i ≡ next_from q m
next_within q passes f i m e = go (dec_le i 65536)
  where
    go : Dec (i ≤ 65536) → next_from q i ≡ next_from q m
    go (yes l) = next_skip q i m (rw e (next_ge passes i)) (rw e (next_le passes i l)) (λ s a b t. next_miss passes i s a (rw (← e) b) (f s t))
    go (no l) = ap (next_from q) (sym (next_past passes i (omega arith)) ∙ sym e)
