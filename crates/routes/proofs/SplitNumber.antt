-- The number of split programs: the product of the option counts, row by row. It is never 0, so that a part of the product is at most the whole, and
-- the rows that flags add leave it as it is. By induction on the rows. Assumes nothing.
use mathlib.Core.Path.{◌≡◌, refl, sym, ◌∙◌}
use mathlib.Core.Bool.{true, false}
use mathlib.Core.List.{List, [], ◌∷◌, ◌++◌, map}
use Prim.Native.Nat.{ℕ, ◌+◌, ◌*◌, ◌≤◌, ◌<◌, max}
use native.Mathlib.Nat.{mul_assoc, mul-one, one-mul, mul-pos, le-mul_of_pos_right}
use native.Mathlib.Omega.{arith}
use lib.Dec.{ltb}
use lib.ListN.{length, get_or, drop}
use borrow.Author.Tests.{lt-ltb, le-ltb}
use Rattle.atoms.specs.Atoms.{has}
use Rattle.lpod.specs.Lists.{keep, below}
use Rattle.lpod.specs.Rule.{Rule, fact, raised, rules}
use Rattle.lpod.specs.Split.{option_count, split_number}
use Rattle.page.specs.Program.{rows_of, program}
use Rattle.words.specs.Coded.{rule_in, rules_in}
use Rattle.words.proofs.Rest.{rest_step, rest_none}
use Rattle.routes.specs.Split.{too_many}

-- ---- one row
pub row_options : (hs : List ℕ) → option_count hs ≡ max 1 (length hs)
unfolding option_count
row_options [] = refl
row_options (c ∷ cs) = omega arith

-- ---- rows
options_some : (hs : List ℕ) → 0 < option_count hs
unfolding option_count
options_some [] = omega arith
options_some (c ∷ cs) = omega arith

pub number_some : (P : List Rule) → 0 < split_number P
unfolding split_number
number_some [] = omega arith
number_some (r ∷ P) = mul-pos (options_some r.head) (number_some P)

number_append : (P Q : List Rule) → split_number (P ++ Q) ≡ split_number P * split_number Q
unfolding split_number
number_append [] Q = sym (one-mul (split_number Q))
number_append (r ∷ P) Q = rw (number_append P Q, mul_assoc)

number_facts : (l : List ℕ) → split_number (map fact l) ≡ 1
unfolding split_number option_count fact
number_facts [] = refl
number_facts (a ∷ l) = rw (number_facts l)

-- the rows of flags have one option each
pub number_flags : (page : List ℕ) (flags : ℕ) → split_number (rules (program page flags)) ≡ split_number (rows_of page)
unfolding rules program raised
number_flags page flags = number_append (rows_of page) (map fact (keep (has flags) (below 16))) ∙ rw (number_facts (keep (has flags) (below 16)), mul-one)

-- with one row fewer there are no more
pub number_down : (P : List Rule) (r : Rule) → split_number P ≤ split_number (P ++ r ∷ [])
number_down P r = rw (number_append P (r ∷ [])) (le-mul_of_pos_right (split_number P) (number_some (r ∷ [])))

-- ---- the product so far, and that of the rows left
pub number_first : (rows : List ℕ) → split_number (rules_in rows) ≡ 1 * split_number (map rule_in (drop 0 rows))
unfolding rules_in
number_first rows = rw one-mul

module _ (rows : List ℕ) (n number : ℕ) (e : split_number (rules_in rows) ≡ number * split_number (map rule_in (drop n rows))) where
  pub number_next : (options : ℕ) → n < length rows → options ≡ max 1 (length (rule_in (get_or rows n 0)).head)
      → split_number (rules_in rows) ≡ number * options * split_number (map rule_in (drop (n + 1) rows))
  unfolding split_number
  number_next options h eo = e ∙ rw (rest_step rule_in rows n h (get_or rows n 0) refl, row_options (rule_in (get_or rows n 0)).head, ← eo, mul_assoc)

  pub number_end : length rows ≤ n → number ≤ 4096 → false ≡ ltb 4096 (split_number (rules_in rows))
  unfolding split_number
  number_end h l =
      let q : split_number (rules_in rows) ≡ number = e ∙ rw (rest_none rule_in rows n h, mul-one) in
      sym (le-ltb 4096 (split_number (rules_in rows)) (omega arith))

  pub number_stop : 4096 < number → true ≡ ltb 4096 (split_number (rules_in rows))
  number_stop h =
      let l = le-mul_of_pos_right number (number_some (map rule_in (drop n rows))) in
      sym (lt-ltb 4096 (split_number (rules_in rows)) (omega arith))

-- with one row more it is above 4,096, and so is the whole
pub number_over : (rows : List ℕ) (n number options : ℕ) → split_number (rules_in rows) ≡ number * split_number (map rule_in (drop n rows)) → n < length rows
    → options ≡ max 1 (length (rule_in (get_or rows n 0)).head) → 4096 < number * options → true ≡ ltb 4096 (split_number (rules_in rows))
number_over rows n number options e h eo l = number_stop rows (n + 1) (number * options) (number_next rows n number e options h eo) l

pub too_many_rows : (page : List ℕ) (flags : ℕ) → too_many page flags ≡ ltb 4096 (split_number (rows_of page))
unfolding too_many
too_many_rows page flags = rw (number_flags page flags)
