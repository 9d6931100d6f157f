-- How many choices of options pass a test, counted row by row. Over the rows and one more it is the sum, over that row's options, of the counts with
-- the option behind; over the rows of flags too it is the count with the flags' options behind. By induction on the rows, the sums being
-- exchanged. Assumes nothing.
use mathlib.Core.Path.{◌≡◌, refl, sym, ap, ◌∙◌}
use mathlib.Core.Bool.{Bool, true, false, ◌&&◌, cond}
use mathlib.Core.List.{List, [], ◌∷◌, ◌++◌, map, append_assoc, reverse-append}
use Prim.Native.Nat.{ℕ, suc, ◌+◌, ◌-◌, ◌≤◌, ◌<◌, max}
use native.Mathlib.Nat.{add-zero}
use native.Mathlib.Omega.{arith}
use lib.ListN.{length, length-append, take}
use lib.Seq.{take-append_seam}
use Rattle.std.proofs.lemmas.List.{map-append}
use Rattle.std.specs.Int.{from_bool}
use Rattle.atoms.specs.Atoms.{has}
use Rattle.lpod.specs.Lists.{keep, gather, below}
use Rattle.lpod.specs.Rule.{Rule, fact, raised, rules}
use Rattle.lpod.specs.Satisfied.{no_pair}
use Rattle.lpod.specs.Split.{Option, gives, options_from, options_of, options, choices, split_number, split_answer, split_count}
use Rattle.lpod.proofs.Lists.{keep_append, keep_length}
use Rattle.lpod.proofs.ReductIsSplit.{split_number_lem}
use Rattle.words.specs.Coded.{rule_in, rules_in, pairs_in, program_in}
use Rattle.routes.specs.Choice.{option_at, chosen, all_chosen, flag_options, count_from}
use Rattle.routes.specs.declared.split.Chosen.{Chosen}
use Rattle.routes.proofs.SplitSums.{sum_over, sum_below, sum_same, sum_swap, below_same, below_more, below_part, options_sum}
use Rattle.routes.proofs.SplitNumber.{row_options, number_down}

-- ---- how many choices pass
abbrev count : (List Option → Bool) → List Rule → ℕ
count p P = length (keep p (choices P))

keep_same : {A : Type 0} (p q : A → Bool) (l : List A) → ((x : A) → p x ≡ q x) → keep p l ≡ keep q l
unfolding keep
keep_same p q [] e = refl
keep_same p q (x ∷ l) e = rw (e x, keep_same p q l e)

count_same : (p q : List Option → Bool) (P : List Rule) → ((C : List Option) → p C ≡ q C) → count p P ≡ count q P
count_same p q P e = ap length (keep_same p q (choices P) e)

keep_map : {A B : Type 0} (p : B → Bool) (f : A → B) (l : List A) → length (keep p (map f l)) ≡ length (keep (λ x. p (f x)) l)
unfolding keep
keep_map p f [] = refl
keep_map p f (x ∷ l) = go (p (f x)) (keep_map p f l)
  where
    go : (b : Bool) → length (keep p (map f l)) ≡ length (keep (λ x. p (f x)) l)
        → length (cond b (f x ∷ keep p (map f l)) (keep p (map f l))) ≡ length (cond b (x ∷ keep (λ x. p (f x)) l) (keep (λ x. p (f x)) l))
    go true e = ap suc e
    go false e = e

keep_gather : {A B : Type 0} (p : B → Bool) (f : A → List B) (l : List A) → length (keep p (gather f l)) ≡ sum_over l (λ x. length (keep p (f x)))
unfolding gather sum_over keep
keep_gather p f [] = refl
keep_gather p f (x ∷ l) = rw (keep_append p (f x) (gather f l), length-append (keep p (f x)) (keep p (gather f l)), keep_gather p f l)

count_row : (p : List Option → Bool) (r : Rule) (P : List Rule) → count p (r ∷ P) ≡ sum_over (options r) (λ o. count (λ C. p (o ∷ C)) P)
unfolding choices
count_row p r P =
    keep_gather p (λ o. map (λ C. o ∷ C) (choices P)) (options r)
    ∙ sum_same (options r) (λ o. length (keep p (map (λ C. o ∷ C) (choices P)))) (λ o. count (λ C. p (o ∷ C)) P) (λ o. keep_map p (λ C. o ∷ C) (choices P))

-- one row more, behind the others
count_last : (p : List Option → Bool) (P : List Rule) (r : Rule) → count p (P ++ r ∷ []) ≡ sum_over (options r) (λ o. count (λ C. p (C ++ o ∷ [])) P)
unfolding choices keep
count_last p [] r = count_row p r []
count_last p (a ∷ P) r =
    count_row p a (P ++ r ∷ [])
    ∙ sum_same (options a) _ (λ o. sum_over (options r) (λ q. count (λ C. p (o ∷ (C ++ q ∷ []))) P)) (λ o. count_last (λ C. p (o ∷ C)) P r)
    ∙ sum_swap (options a) (options r) (λ o q. count (λ C. p (o ∷ (C ++ q ∷ []))) P)
    ∙ sum_same (options r) _ (λ q. count (λ C. p (C ++ q ∷ [])) (a ∷ P)) (λ q. sym (count_row (λ C. p (C ++ q ∷ [])) a P))

-- the rows of flags: each has its one option
facts_alone : (p : List Option → Bool) (l : List ℕ) → count p (map fact l) ≡ count (λ C. p (C ++ map (λ a. gives a [] []) l)) []
unfolding choices keep fact options options_of options_from sum_over
facts_alone p [] = refl
facts_alone p (a ∷ l) = count_row p (fact a) (map fact l) ∙ add-zero _ ∙ facts_alone (λ C. p (gives a [] [] ∷ C)) l

-- and behind the others
count_facts : (p : List Option → Bool) (P : List Rule) (l : List ℕ) → count p (P ++ map fact l) ≡ count (λ C. p (C ++ map (λ a. gives a [] []) l)) P
count_facts p [] l = facts_alone p l
count_facts p (r ∷ P) l =
    count_row p r (P ++ map fact l)
    ∙ sum_same (options r) _ (λ o. count (λ C. p (o ∷ (C ++ map (λ a. gives a [] []) l))) P) (λ o. count_facts (λ C. p (o ∷ C)) P l)
    ∙ sym (count_row (λ C. p (C ++ map (λ a. gives a [] []) l)) r P)

keep_none : {A : Type 0} (l : List A) → keep (λ x. false) l ≡ []
unfolding keep
keep_none [] = refl
keep_none (x ∷ l) = keep_none l

count_most : (p : List Option → Bool) (P : List Rule) → count p P ≤ split_number P
count_most p P = rw (← split_number_lem P) (keep_length p (choices P))

-- ---- the counts that the test makes
module _ (flags s : ℕ) where
  -- no row is left: the choice itself is tested
  pub count_zero : (O : List Option) (b : Bool) → b ≡ split_answer (O ++ flag_options flags) s → cond b 1 0 ≡ count_from [] flags s O
  unfolding count_from choices keep
  count_zero O b eb = rw eb (one (split_answer (O ++ flag_options flags) s))
    where
      one : (b : Bool) → cond b 1 0 ≡ length (cond {A = List (List Option)} b ([] ∷ []) [])
      one true = refl
      one false = refl

  -- the options of the last row, one after the other
  module _ (P : List Rule) (r : Rule) (O : List Option) where
    abbrev pub with_option : ℕ → ℕ
    with_option k = count_from P flags s (option_at r k ∷ O)

    before : List Option → Bool
    before C = split_answer (C ++ (O ++ flag_options flags)) s

    pub count_step : count_from (P ++ r ∷ []) flags s O ≡ sum_below (max 1 (length r.head)) with_option
    unfolding count_from sum_below before
    count_step =
        count_last before P r ∙ options_sum r (λ o. count (λ C. before (C ++ o ∷ [])) P) ∙ rw (row_options r.head)
        (below_same (max 1 (length r.head)) _ with_option
        (λ k. count_same _ _ P (λ C. ap (λ D. split_answer D s) (append_assoc C (option_at r k ∷ []) (O ++ flag_options flags)))))

    -- the counts so far and the next one are no more than there are split programs
    pub count_room : (k : ℕ) → k < max 1 (length r.head) → sum_below k with_option + with_option k ≤ split_number (P ++ r ∷ [])
    unfolding count_from before
    count_room k lk =
        let a : sum_below (k + 1) with_option ≤ sum_below (max 1 (length r.head)) with_option
        = below_part (k + 1) (max 1 (length r.head)) _ (omega arith) in
        let b = below_more k with_option in
        let c = count_step in
        let d : count_from (P ++ r ∷ []) flags s O ≤ split_number (P ++ r ∷ []) = count_most before (P ++ r ∷ []) in
        omega arith

  module _ (rows pairs : List ℕ) where
    -- all rows, and none before them
    pub count_whole : no_pair (pairs_in pairs) s ≡ true → count_from (rules_in rows) flags s [] ≡ split_count (program_in rows pairs flags) s
    unfolding count_from split_count rules program_in raised flag_options
    count_whole e =
        sym (count_same _ (λ C. split_answer C s) (rules_in rows ++ map fact (keep (has flags) (below 16))) (λ C. ap (λ b. b && split_answer C s) e)
        ∙ count_facts (λ C. split_answer C s) (rules_in rows) (keep (has flags) (below 16)))

    -- a set that holds a pair is an answer set of none
    pub count_paired : no_pair (pairs_in pairs) s ≡ false → 0 ≡ split_count (program_in rows pairs flags) s
    unfolding split_count program_in
    count_paired e =
        sym (count_same _ (λ C. false) (rules (program_in rows pairs flags)) (λ C. ap (λ b. b && split_answer C s) e)
        ∙ ap length (keep_none (choices (rules (program_in rows pairs flags)))))

-- ---- in the words of the rows
-- without rows the choice is tested
pub count_end : (flags s : ℕ) (rows : List ℕ) (O : List Option) → length rows ≡ 0 → (b : Bool) → b ≡ split_answer (O ++ flag_options flags) s
    → (r : ℕ) → r ≡ from_bool b → r ≡ count_from (rules_in rows) flags s O
unfolding rules_in
count_end flags s [] O e b eb r er = er ∙ one b ∙ count_zero flags s O b eb
  where
    one : (b : Bool) → from_bool b ≡ cond b 1 0
    one true = refl
    one false = refl
count_end flags s (w ∷ rows) O e b eb r er = absurd (omega arith)

module _ (rows rest : List ℕ) (row : ℕ) (e : rows ≡ rest ++ row ∷ []) where
  rows_last : rules_in rows ≡ rules_in rest ++ rule_in row ∷ []
  unfolding rules_in
  rows_last = rw (e, map-append)

  pub rows_fewer : split_number (rules_in rest) ≤ split_number (rules_in rows)
  rows_fewer = rw rows_last (number_down (rules_in rest) (rule_in row))

module _ (flags s : ℕ) (rows rest : List ℕ) (row : ℕ) (e : rows ≡ rest ++ row ∷ []) (choice : List Chosen) where
  abbrev pub with_row : ℕ → ℕ
  with_row = with_option flags s (rules_in rest) (rule_in row) (all_chosen choice)

  -- the sum over all options is the whole count
  pub rows_counted : (k : ℕ) → k ≡ max 1 (length (rule_in row).head) → (r : ℕ) → r ≡ sum_below k with_row → r ≡ count_from (rules_in rows) flags s (all_chosen choice)
  rows_counted k ek r er =
      er ∙ rw (ek, rows_last rows rest row e) (sym (count_step flags s (rules_in rest) (rule_in row) (all_chosen choice)))

  pub rows_room : (k : ℕ) → k < max 1 (length (rule_in row).head) → sum_below k with_row + with_row k ≤ split_number (rules_in rows)
  rows_room k l = rw (rows_last rows rest row e) (count_room flags s (rules_in rest) (rule_in row) (all_chosen choice) k l)

  -- the call for the rows before it, with one row more chosen
  pub row_counted : (k : ℕ) (more : List Chosen) → more ≡ choice ++ record { row = row; option = k } ∷ [] → (r : ℕ)
      → r ≡ count_from (rules_in rest) flags s (all_chosen more) → r ≡ with_row k
  unfolding all_chosen chosen
  row_counted k more em r er = er ∙ rw (em, reverse-append)

-- what was added last is let go again
pub popped : (choice more less : List Chosen) (c : Chosen) → more ≡ choice ++ c ∷ [] → less ≡ take (length more - 1) more → less ≡ choice
popped choice more less c e l = l ∙ rw e (let n : length (choice ++ c ∷ []) - 1 ≡ length choice = omega (arith, length-append choice (c ∷ [])) in rw n (take-append_seam choice (c ∷ [])))
