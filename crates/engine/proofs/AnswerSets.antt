-- On an accepted page the words have the answer sets of the page and no others: an answer set holds only raised atoms and head atoms, which are
-- atoms of the page. So the lists and the pick of the words are those of the page. Assumes nothing.
use mathlib.Core.Path.{◌≡◌, refl, sym, ap, ◌∙◌}
use mathlib.Core.Bool.{Bool}
use mathlib.Core.Logic.{⊎_elim}
use mathlib.Core.List.Memᴰ
use mathlib.Core.List.{List, [], ◌∷◌, Memᴰ}
use Prim.Native.Nat.{ℕ, ◌^◌, ◌≤◌, ◌<◌}
use native.Mathlib.Nat.{lt_of_le_of_lt}
use lib.Pow.{pow_mono}
use lib.Bits.{or_lt}
use lib.Dec.{T}
use lib.ListN.{length}
use lib.Seq.{take_all}
use Rattle.atoms.specs.Atoms.{union}
use Rattle.atoms.proofs.Bits.{inside_le}
use Rattle.lpod.specs.Lists.{keep, below}
use Rattle.lpod.specs.Rule.{Rule, Program, rules, set_of, head_atoms}
use Rattle.lpod.specs.Answer.{answer, answer_sets}
use Rattle.lpod.specs.Preferred.{preferred}
use Rattle.lpod.specs.Best.{best_of, best_sets, first_of, pick}
use Rattle.lpod.proofs.Between.{inside_heads}
use Rattle.page.specs.Fields.{atom_count}
use Rattle.page.specs.Program.{rows_of, program}
use Rattle.page.specs.Refusals.{flag_no}
use Rattle.page.proofs.Accepted.{ranges}
use Rattle.page.proofs.AcceptedAtoms.{AtomsBelow, rows_below, flag_page, flags_below}
use Rattle.words.proofs.Sets.{set_below}
use Rattle.words.specs.Coded.{program_in, row_words, pair_words}
use Rattle.words.proofs.Lent.{lent_preferred, lent_answer}
use Rattle.lanes.specs.Sets.{program_of, wanted, FoundSays}
use Rattle.lanes.proofs.Listed.{found_same}
use Rattle.lanes.proofs.Kept.{keep_short}
use Rattle.lanes.specs.declared.sets.Which.{Which}
use Rattle.lanes.specs.declared.sets.Which.TheVariants.{All, Best}

-- ---- the head atoms are atoms of the page where each row's are
heads_below : (n : ℕ) (P : List Rule) → ((r : Rule) → Memᴰ r P → AtomsBelow n r.head) → AtomsBelow n (head_atoms P)
unfolding head_atoms
heads_below n [] h a m = elim m [ ]
heads_below n (r ∷ P) h a m =
    ⊎_elim (λ i. h r (Memᴰ.head refl) a i) (λ i. heads_below n P (λ q j. h q (Memᴰ.tail j)) a i) (Memᴰ.append_cases r.head m)

-- ---- an accepted page and flag word
module _ (page : List ℕ) (flags : ℕ) (w : flags < 2 ^ 16) (h : flag_no page flags ≡ 0) where
  most : atom_count page ≤ 16
  most = (ranges page (flag_page page flags h)).atoms_most

  of_page : AtomsBelow (atom_count page) (head_atoms (rows_of page))
  of_page = heads_below (atom_count page) (rows_of page) (λ r m. (rows_below page (flag_page page flags h) r m).head_below)

  pub answer_below : (s : ℕ) → T (answer (program page flags) s) → s < 2 ^ atom_count page
  unfolding program
  answer_below s t =
      lt_of_le_of_lt (inside_le s (union flags (set_of (head_atoms (rows_of page)))) (inside_heads (program page flags) s t))
      (or_lt (atom_count page) flags (set_of (head_atoms (rows_of page))) (flags_below page flags h w) (set_below (atom_count page) (head_atoms (rows_of page)) of_page))

  -- a program of 16 atoms that has the tests of the page
  module _ (p : Program) (few : p.atoms ≡ 16) (ea : answer p ≡ answer (program page flags)) where
    same_sets : answer_sets p ≡ answer_sets (program page flags)
    unfolding answer_sets program
    same_sets =
        ap (λ (n : ℕ). keep (answer p) (below (2 ^ n))) few ∙ ap (λ (f : ℕ → Bool). keep f (below (2 ^ 16))) ea
        ∙ keep_short (answer (program page flags)) (2 ^ atom_count page) (2 ^ 16) (pow_mono most) answer_below

    module _ (ep : preferred p ≡ preferred (program page flags)) where
      same_best : best_sets p ≡ best_sets (program page flags)
      unfolding best_sets
      same_best = ap (λ (f : ℕ → ℕ → Bool). best_of f (answer_sets p)) ep ∙ ap (best_of (preferred (program page flags))) same_sets

      pub same_wanted : (which : Which) → wanted which p ≡ wanted which (program page flags)
      unfolding wanted
      same_wanted All = same_sets
      same_wanted Best = same_best

-- the order of a program does not ask for its pairs
no_pairs : (rows pairs : List ℕ) (flags : ℕ) → preferred (program_in rows pairs flags) ≡ preferred (program_in rows [] flags)
unfolding preferred rules program_in
no_pairs rows pairs flags = refl

-- ---- in the words of the code, which are those of an accepted page: what is found for them is found for the page
module _ (page : List ℕ) (flags : ℕ) (w : flags < 2 ^ 16) (z : 0 ≡ flag_no page flags)
    (rows : List ℕ) (er : rows ≡ row_words page) (few : length rows ≤ 32) (pairs : List ℕ) (ep : pairs ≡ pair_words page) where
  whole : program_of rows pairs flags ≡ program_in rows pairs flags
  unfolding program_of
  whole = ap (λ (l : List ℕ). program_in l pairs flags) (take_all 32 rows few)

  pub made_sets : (which : Which) → wanted which (program_of rows pairs flags) ≡ wanted which (program page flags)
  unfolding program_in
  made_sets which =
      let g = flag_page page flags (sym z) in
      ap (wanted which) whole
      ∙ same_wanted page flags w (sym z) (program_in rows pairs flags) refl (lent_answer page g rows er pairs ep flags)
      (no_pairs rows pairs flags ∙ lent_preferred page g rows er flags) which

  pub sets_found : (which : Which) (out : List ℕ) (r : ℕ) (after : List ℕ) → FoundSays (wanted which (program_of rows pairs flags)) out r after
      → FoundSays (wanted which (program page flags)) out r after
  sets_found which out r after s = found_same out (made_sets which) s

  pub made_pick : pick (program_of rows pairs flags) ≡ pick (program page flags)
  unfolding pick wanted
  made_pick = ap first_of (made_sets Best)
