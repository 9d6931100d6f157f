-- One number more: where it is an atom of the set, it is written. Assumes nothing.
use Rattle.std.proofs.Common.{◌≡◌, ℕ, zero, suc, ◌+◌, Bool, true, false, [], ◌∷◌, ◌++◌, filter, ap, ◌∙◌, append-nil, arith}
use Rattle.std.proofs.lemmas.Grind.{common_steps}
use Rattle.std.proofs.lemmas.List.Elements.{filter-append}
use Rattle.std.specs.List.{range_with_len}
use Rattle.roundrun.proofs.AtomsDisplay.fmt.Goals as goal

range_more : (a n j : ℕ) → a + n ≡ j → range_with_len a (suc n) ≡ range_with_len a n ++ j ∷ []
range_more a zero j e = let same : a ≡ j = omega arith in ap (λ k. k ∷ []) same
range_more a (suc n) j e = ap (λ l. a ∷ l) (range_more (a + 1) n j (omega arith))

module _ (p : ℕ → Bool) (n : ℕ) where
  filter_more : filter p (range_with_len 0 (n + 1)) ≡ filter p (range_with_len 0 n) ++ filter p (n ∷ [])
  filter_more = let on : n + 1 ≡ suc n = omega arith in ap (λ k. filter p (range_with_len 0 k)) on ∙ ap (filter p) (range_more 0 n n (omega arith)) ∙ filter-append p (range_with_len 0 n) (n ∷ [])

  taken : p n ≡ true → filter p (range_with_len 0 (n + 1)) ≡ filter p (range_with_len 0 n) ++ n ∷ []
  taken e = filter_more ∙ rw e

  left : p n ≡ false → filter p (range_with_len 0 (n + 1)) ≡ filter p (range_with_len 0 n)
  left e = filter_more ∙ rw (e, append-nil)

pub loop-atom-preserved : goal.loop-atom-preserved
loop-atom-preserved g c = grind (arith, common_steps, taken, left)
