-- The marks are the answer sets, and what the best of them are. An answer set lies between the flags and the flags with all head atoms; so the sets
-- that are tried and pass are all of them. Among answer sets the rows with two head atoms or more rank alone. Assumes nothing.
use mathlib.Core.Path.{◌≡◌, refl, sym, ap, ◌∙◌, subst}
use mathlib.Core.Bool.{Bool, ◌&&◌, not}
use mathlib.Core.Logic.{⊎_elim}
use mathlib.Core.List.Memᴰ
use mathlib.Core.List.{List, [], ◌∷◌, Memᴰ}
use Prim.Native.Nat.{ℕ, zero, suc, ◌/◌, ◌^◌, ◌<◌}
use native.Mathlib.Omega.{arith}
use lib.Dec.{T}
use Rattle.atoms.specs.Atoms.{has, inside, union}
use Rattle.atoms.proofs.Truth.{or_l, and_l, and_r, both, same_yes}
use Rattle.atoms.proofs.Bits.{has_or, inside_test}
use Rattle.lpod.specs.Lists.{every, keep, below}
use Rattle.lpod.specs.Rule.{Program, rules, set_of, head_atoms}
use Rattle.lpod.specs.Satisfied.{satisfies_all}
use Rattle.lpod.specs.Answer.{answer, answer_sets}
use Rattle.lpod.specs.Preferred.{preferred}
use Rattle.lpod.specs.Best.{none_over, best_of, best_sets}
use Rattle.lpod.proofs.Lists.{in_keep, in_numbers}
use Rattle.lpod.proofs.AnswerParts.{answer_says}
use Rattle.lpod.proofs.Between.{flags_inside, inside_heads}
use Rattle.words.specs.Coded.{digits, rule_in, rules_in, pairs_in, rules_with, program_in}
use Rattle.words.proofs.Sets.{atoms_set}
use Rattle.lanes.specs.Seek.{all_from}
use Rattle.lanes.specs.Marks.{marked, Within}
use Rattle.lanes.specs.Tried.{top_of, tried}
use Rattle.lanes.specs.Rank.{over, ranks}
use Rattle.lanes.specs.Search.{best_among, sought_best}
use Rattle.lanes.proofs.Kept.{keep_same, keep_both}
use Rattle.lanes.proofs.Filled.{inside_high}
use Rattle.lanes.proofs.RankedRows.{ranking_law}

-- ---- the head atoms of words are atoms
digits_atoms : (n h a : ℕ) → Memᴰ a (digits n h) → a < 16
unfolding digits
digits_atoms zero h a m = elim m [ ]
digits_atoms (suc n) h a m = ⊎_elim (λ e. rw e (omega arith)) (λ i. digits_atoms n (h / 16) a i) (Memᴰ.cases_cons m)

heads_atoms : (rows : List ℕ) (a : ℕ) → Memᴰ a (head_atoms (rules_in rows)) → a < 16
unfolding head_atoms rules_in rule_in
heads_atoms [] a m = elim m [ ]
heads_atoms (w ∷ rows) a m = ⊎_elim (λ i. digits_atoms _ _ a i) (λ i. heads_atoms rows a i) (Memᴰ.append_cases (rule_in w).head m)

-- ---- tests that agree on sets have the same sets
pub same_all : (f g : ℕ → Bool) → ((s : ℕ) → s < 65536 → f s ≡ g s) → all_from f 0 ≡ all_from g 0
unfolding all_from
same_all f g e = keep_same f g (below 65536) (λ s m. e s (omega (arith, (in_numbers 0 65536 s m).1)))

-- the best of all that pass, over any relation
best_of_all : (ov : ℕ → ℕ → Bool) (passes : ℕ → Bool) → all_from (best_among ov passes) 0 ≡ best_of ov (all_from passes 0)
unfolding all_from best_among best_of
best_of_all ov passes = keep_both passes (none_over ov (keep passes (below 65536))) (below 65536)

every_same : {A : Type 0} (f g : A → Bool) (l : List A) → ((x : A) → Memᴰ x l → f x ≡ g x) → every f l ≡ every g l
unfolding every
every_same f g [] e = refl
every_same f g (x ∷ l) e = rw (e x (Memᴰ.head refl), every_same f g l (λ y m. e y (Memᴰ.tail m)))

-- two relations that agree on a list have the same best ones
best_same : (ov over' : ℕ → ℕ → Bool) (l : List ℕ) → ((x y : ℕ) → Memᴰ x l → Memᴰ y l → ov x y ≡ over' x y) → best_of ov l ≡ best_of over' l
unfolding best_of none_over
best_same ov over' l e = keep_same _ _ l (λ x m. every_same (λ y. not (ov y x)) (λ y. not (over' y x)) l (λ y n. ap (λ (b : Bool). not b) (e y x n m)))

module _ (rows pairs : List ℕ) (flags : ℕ) (w : flags < 65536) where
  abbrev p : Program
  p = program_in rows pairs flags

  top_is : top_of (rules_in rows) flags ≡ union flags (set_of (head_atoms (rules_in rows)))
  unfolding top_of
  top_is = ap (union flags) (atoms_set (head_atoms (rules_in rows)) (heads_atoms rows))

  module _ (top : ℕ) (et : top ≡ top_of (rules_in rows) flags) where
    pub flags_top : T (inside flags top)
    flags_top = inside_test flags top (λ i t. rw (et, top_is) (subst T (sym (has_or flags (set_of (head_atoms (rules_in rows))) i)) (or_l (has flags i) (has (set_of (head_atoms (rules_in rows))) i) t)))

    tried_answer : (s : ℕ) → tried (answer p) flags top s ≡ answer p s
    unfolding tried program_in
    tried_answer s =
        same_yes (inside flags s && (inside s top && answer p s)) (answer p s)
        (λ t. and_r (inside s top) (answer p s) (and_r (inside flags s) (inside s top && answer p s) t))
        (λ t. both (inside flags s) (inside s top && answer p s) (inside_test flags s (flags_inside p s t (omega arith)))
        (both (inside s top) (answer p s) (inside_test s top (rw (et, top_is) (inside_heads p s t))) t))

    module _ (marks : List ℕ) (f : (s : ℕ) → marked marks s ≡ tried (answer p) flags top s) where
      marked_answer : (s : ℕ) → marked marks s ≡ answer p s
      marked_answer s = f s ∙ tried_answer s

      pub within_all : Within marks (flags / 64) (top / 64)
      unfolding tried
      within_all s t =
          let u : T (inside flags s && (inside s top && answer p s)) = subst T (f s) t in (
            inside_high flags s (and_l (inside flags s) (inside s top && answer p s) u),
            inside_high s top (and_l (inside s top) (answer p s) (and_r (inside flags s) (inside s top && answer p s) u)),
          )

      pub all_answers : all_from (marked marks) 0 ≡ answer_sets p
      unfolding all_from answer_sets program_in
      all_answers = keep_same (marked marks) (answer p) (below 65536) (λ s m. marked_answer s)

      -- among the answer sets the ranking rows decide
      same_rank : (x y : ℕ) → Memᴰ x (answer_sets p) → Memᴰ y (answer_sets p) → over (keep ranks rows) x y ≡ preferred p x y
      unfolding answer_sets program_in rules_with rules pairs_in preferred
      same_rank x y m n =
          sym (ranking_law rows flags x y (satisfied x (in_keep (answer p) (below (2 ^ 16)) x m).1) (satisfied y (in_keep (answer p) (below (2 ^ 16)) y n).1))
        where
          satisfied : (s : ℕ) → T (answer p s) → T (satisfies_all s (rules_with rows flags))
          satisfied s t = ((answer_says p s).0 t).satisfied

      pub all_best : all_from (sought_best (over (keep ranks rows)) marks) 0 ≡ best_sets p
      unfolding best_sets
      all_best =
          best_of_all (over (keep ranks rows)) (marked marks) ∙ ap (best_of (over (keep ranks rows))) all_answers
          ∙ best_same (over (keep ranks rows)) (preferred p) (answer_sets p) same_rank
