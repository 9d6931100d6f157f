-- The twelve pages with known results, under one statement about the definitions: each page says what is printed of it.
-- Every entry is checked by computing both sides. Assumes nothing.
use mathlib.Core.Path.{◌≡◌, refl}
use mathlib.Core.Bool.{Bool, true, false, not}
use mathlib.Core.List.{List, [], ◌∷◌, map}
use mathlib.Core.Option as option
use mathlib.Core.Option.{Option}
use Prim.Native.Nat.{ℕ, ◌^◌}
use lib.Dec.{eqb}
use lib.IntN.{ℤ, pos, negsuc}
use lib.ListN.{get_or}
use Rattle.atoms.specs.Atoms.{has, inside}
use Rattle.lpod.specs.Lists.{every, some, keep, gather, numbers, below}
use Rattle.lpod.specs.Rule.{Rule, Program, fact, raised, rules}
use Rattle.lpod.specs.Satisfied.{all_in, some_in, none_in, body_holds, satisfies, satisfies_all, no_pair}
use Rattle.lpod.specs.Reduct.{Definite, reduct_head, reduct_row, reduct}
use Rattle.lpod.specs.Least.{closed, fire, rounds, least}
use Rattle.lpod.specs.Answer.{answer, answer_sets}
use Rattle.lpod.specs.Split.{options_from, options_of, options, choices, option_count, split_number, gl_row, gl_reduct, bar_holds, split_answer, split_count}
use Rattle.lpod.specs.HereThere.{head_holds, row_holds, model, no_smaller, here_there}
use Rattle.lpod.specs.Degree.{place, degree, degrees}
use Rattle.lpod.specs.Preferred.{equal_at, more_at, first_more, within, longest, preferred, compare}
use Rattle.lpod.specs.Best.{none_over, best_of, first_of, best_sets, pick}

-- ---- what can be said of a page
pub data Fact : Type 0 where
  -- its answer sets, by each of the three roads; its pick
  sets : List ℕ → Fact
  sets_here_there : List ℕ → Fact
  sets_split : List ℕ → Fact
  picks : Option ℕ → Fact
  -- the degrees of a set; how two sets compare
  has_degrees : ℕ → List ℕ → Fact
  compares : ℕ → ℕ → ℤ → Fact
  -- a set belongs to so many of so many split programs
  belongs : ℕ → ℕ → ℕ → Fact
  -- the reduct for a set; whether the set is closed under it, satisfies every row, satisfies the row of this number, is an answer set
  has_reduct : ℕ → List Definite → Fact
  is_closed : ℕ → Bool → Fact
  satisfies_rows : ℕ → Bool → Fact
  satisfies_row : ℕ → ℕ → Bool → Fact
  is_answer : ℕ → Bool → Fact

-- the same question, with the answer that the definitions give
unfoldable pub tell : Program → Fact → Fact
tell p (sets l) = sets (answer_sets p)
tell p (sets_here_there l) = sets_here_there (keep (here_there p) (below (2 ^ p.atoms)))
tell p (sets_split l) = sets_split (keep (λ s. not (eqb (split_count p s) 0)) (below (2 ^ p.atoms)))
tell p (picks o) = picks (pick p)
tell p (has_degrees s l) = has_degrees s (degrees p s)
tell p (compares M N z) = compares M N (compare p M N)
tell p (belongs s n of) = belongs s (split_count p s) (split_number (rules p))
tell p (has_reduct s D) = has_reduct s (reduct (rules p) s)
tell p (is_closed s t) = is_closed s (closed (reduct (rules p) s) s)
tell p (satisfies_rows s t) = satisfies_rows s (satisfies_all s p.rows)
tell p (satisfies_row s i t) = satisfies_row s i (satisfies s (get_or p.rows i (fact 0)))
tell p (is_answer s t) = is_answer s (answer p s)

pub record Case : Type 0 where
  pub page : Program
  pub facts : List Fact

-- in each case the definitions answer as printed
unfoldable pub AllTold : List Case → Type 0
AllTold [] = Unit {0}
AllTold (x ∷ xs) = (map (tell x.page) x.facts ≡ x.facts) × AllTold xs

-- ---- the pages. Atoms a = 0, b = 1 and so on
abbrev row : List ℕ → List ℕ → List ℕ → Rule
row h p n = record { head = h; pos = p; neg = n }

abbrev page : ℕ → List Rule → Program
page n P = record { atoms = n; rows = P; pairs = []; flags = 0 }

abbrev a : ℕ
a = 0

abbrev b : ℕ
b = 1

abbrev c : ℕ
c = 2

abbrev d : ℕ
d = 3

abbrev e : ℕ
e = 4

-- case 4: 000 Example 2, as mercedes 0, bmw 1, gas 2, diesel 3, not-gas 4
cars : Program
cars = record {
  atoms = 5;
  rows = row (0 ∷ 1 ∷ []) [] [] ∷ row (2 ∷ 3 ∷ []) (0 ∷ []) [] ∷ row (4 ∷ []) [] [] ∷ [];
  pairs = record { one = 2; other = 4 } ∷ [];
  flags = 0;
}

-- case 12: live 0, second 1, held 2, none 3, bubble 4, off 5
train : ℕ → Program
train f = record {
  atoms = 6;
  rows = row (0 ∷ 1 ∷ 2 ∷ 3 ∷ []) [] [] ∷ row [] (0 ∷ 4 ∷ []) [] ∷ row [] (1 ∷ 5 ∷ []) [] ∷ [];
  pairs = [];
  flags = f;
}

-- by all three roads
abbrev roads : List ℕ → List Fact → List Fact
roads l fs = sets l ∷ sets_here_there l ∷ sets_split l ∷ fs

abbrev picked : ℕ → Fact
picked s = picks (option.some s)

abbrev no_pick : Fact
no_pick = picks option.none

pub cases : List Case
unfolding cars train
cases =
    -- 1: a × b
    record { page = page 2 (row (a ∷ b ∷ []) [] [] ∷ []); facts = roads (1 ∷ 2 ∷ []) (picked 1 ∷ belongs 1 1 2 ∷ belongs 2 1 2 ∷ []) }
    -- 2: a × b if not c; b × c if not d
    ∷ record {
      page = page 4 (row (a ∷ b ∷ []) [] (c ∷ []) ∷ row (b ∷ c ∷ []) [] (d ∷ []) ∷ []);
      facts =
          roads (2 ∷ 3 ∷ 4 ∷ [])
          (has_degrees 2 (2 ∷ 1 ∷ [])
          ∷ has_degrees 3 (1 ∷ 1 ∷ [])
          ∷ has_degrees 4 (1 ∷ 2 ∷ [])
          ∷ picked 3
          ∷ compares 2 4 (pos 0)
          ∷ compares 3 4 (pos 1)
          ∷ compares 4 3 (negsuc 0)
          ∷ []);
    }
    -- 3: a × b if c, not d; d × a if not b; d × e if not a. The reduct for 6 is "b if c"; 0 is closed and fails two rows
    ∷ record {
      page = page 5 (row (a ∷ b ∷ []) (c ∷ []) (d ∷ []) ∷ row (d ∷ a ∷ []) [] (b ∷ []) ∷ row (d ∷ e ∷ []) [] (a ∷ []) ∷ []);
      facts =
          roads (1 ∷ 8 ∷ [])
          (has_reduct 6 (record { atom = b; body = c ∷ [] } ∷ [])
          ∷ is_answer 6 false
          ∷ is_closed 0 true
          ∷ satisfies_row 0 0 true
          ∷ satisfies_row 0 1 false
          ∷ satisfies_row 0 2 false
          ∷ []);
    }
    -- 4
    ∷ record { page = cars; facts = roads (18 ∷ 25 ∷ []) (compares 18 25 (pos 0) ∷ picked 18 ∷ []) }
    -- 5: a × b; b
    ∷ record { page = page 2 (row (a ∷ b ∷ []) [] [] ∷ row (b ∷ []) [] [] ∷ []); facts = roads (2 ∷ 3 ∷ []) (picked 3 ∷ []) }
    -- 6: a if not a
    ∷ record { page = page 1 (row (a ∷ []) [] (a ∷ []) ∷ []); facts = roads [] (no_pick ∷ []) }
    -- 7: one atom, no row
    ∷ record { page = page 1 []; facts = roads (0 ∷ []) (picked 0 ∷ []) }
    -- 8: a row with no head and no body
    ∷ record { page = page 1 (row [] [] [] ∷ []); facts = roads [] (no_pick ∷ []) }
    -- 9: a × b; no head if a
    ∷ record { page = page 2 (row (a ∷ b ∷ []) [] [] ∷ row [] (a ∷ []) [] ∷ []); facts = roads (2 ∷ []) (picked 2 ∷ []) }
    -- 10: a if b; b if a. The set of both satisfies both rows and is none
    ∷ record {
      page = page 2 (row (a ∷ []) (b ∷ []) [] ∷ row (b ∷ []) (a ∷ []) [] ∷ []);
      facts = roads (0 ∷ []) (satisfies_rows 3 true ∷ is_answer 3 false ∷ []);
    }
    -- 11: a × b × a
    ∷ record { page = page 2 (row (a ∷ b ∷ a ∷ []) [] [] ∷ []); facts = roads (1 ∷ 2 ∷ []) (belongs 1 1 3 ∷ belongs 2 1 3 ∷ []) }
    -- 12, at three flag words
    ∷ record { page = train 0; facts = roads (1 ∷ 2 ∷ 4 ∷ 8 ∷ []) (picked 1 ∷ []) }
    ∷ record { page = train 16; facts = roads (18 ∷ 20 ∷ 24 ∷ []) (picked 18 ∷ []) }
    ∷ record { page = train 48; facts = roads (52 ∷ 56 ∷ []) (picked 52 ∷ []) }
    ∷ []

-- ---- every case comes out as printed
pub known_pages : AllTold cases
unfolding AllTold tell cases cars train raised fact rules no_pair satisfies_all satisfies body_holds all_in some_in none_in every some keep gather numbers
    reduct reduct_row reduct_head closed fire rounds least answer answer_sets options_from options_of options choices option_count split_number gl_row gl_reduct
    bar_holds split_answer split_count head_holds row_holds model no_smaller here_there place degree degrees equal_at more_at first_more within longest preferred
    compare none_over best_of first_of best_sets pick has inside
known_pages = (refl, (refl, (refl, (refl, (refl, (refl, (refl, (refl, (refl, (refl, (refl, (refl, (refl, (refl, tt))))))))))))))
