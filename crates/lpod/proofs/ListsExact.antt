-- The list of answer sets holds exactly the answer sets below 2 ^ A, and that of best sets exactly the best ones; both rise, so each set
-- stands once. Both are kept from a run of numbers. Assumes nothing.
use mathlib.Core.Logic.{◌↔◌}
use mathlib.Core.List.{Memᴰ}
use Prim.Native.Nat.{ℕ, ◌^◌, ◌<◌}
use native.Mathlib.Omega.{arith}
use lib.Dec.{T}
use Rattle.atoms.proofs.Truth.{and_l, and_r, both}
use Rattle.lpod.specs.Lists.{below, Rising}
use Rattle.lpod.specs.Rule.{Program}
use Rattle.lpod.specs.Answer.{answer, answer_sets}
use Rattle.lpod.specs.Preferred.{preferred}
use Rattle.lpod.specs.Best.{none_over, best_of, best, best_sets}
use Rattle.lpod.proofs.Lists.{keep_in, in_keep, in_numbers, numbers_in, numbers_rise, keep_rises}

module _ (p : Program) where
  pub answers_exact : (s : ℕ) → Memᴰ s (answer_sets p) ↔ ((s < 2 ^ p.atoms) × T (answer p s))
  unfolding answer_sets
  answers_exact s = (
    (λ m. let k = in_keep (answer p) (below (2 ^ p.atoms)) s m in let i = in_numbers 0 (2 ^ p.atoms) s k.0 in (omega (arith, i.1), k.1)),
    (λ h. keep_in (answer p) (below (2 ^ p.atoms)) s (numbers_in 0 (2 ^ p.atoms) s (omega arith) (omega (arith, h.0))) h.1),
  )

  pub answers_rise : Rising (answer_sets p)
  unfolding answer_sets
  answers_rise = keep_rises (answer p) (below (2 ^ p.atoms)) (numbers_rise 0 (2 ^ p.atoms))

  pub bests_exact : (s : ℕ) → Memᴰ s (best_sets p) ↔ ((s < 2 ^ p.atoms) × T (best p s))
  unfolding best_sets best_of best
  bests_exact s = (
    (λ m.
        let k = in_keep (none_over (preferred p) (answer_sets p)) (answer_sets p) s m in
        let a = (answers_exact s).0 k.0 in
        (a.0, both (answer p s) (none_over (preferred p) (answer_sets p) s) a.1 k.1)),
    (λ h.
        keep_in (none_over (preferred p) (answer_sets p)) (answer_sets p) s
        ((answers_exact s).1 (h.0, and_l (answer p s) (none_over (preferred p) (answer_sets p) s) h.1))
        (and_r (answer p s) (none_over (preferred p) (answer_sets p) s) h.1)),
  )

  pub bests_rise : Rising (best_sets p)
  unfolding best_sets best_of
  bests_rise = keep_rises (none_over (preferred p) (answer_sets p)) (answer_sets p) answers_rise
