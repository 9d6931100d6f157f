-- Split programs, and how many of them have a set as answer set. 001 sections 2.1 and 2.2
use Rattle.std.specs.Prelude.{Bool, true, ◌&&◌, not, cond, List, [], ◌∷◌, ◌++◌, map, ℕ, ◌*◌, eqb, length}
use Rattle.lpod.specs.Lists.{every, keep, gather}
use Rattle.lpod.specs.Rule.{Rule, Program, rules}
use Rattle.lpod.specs.Satisfied.{all_in, none_in, no_pair}
use Rattle.lpod.specs.Reduct.{Definite}
use Rattle.lpod.specs.Least.{least}

-- a rule of a split program: "atom if pos, not neg", or a row without head
pub data Option : Type 0 where
  gives : ℕ → List ℕ → List ℕ → Option
  bars : List ℕ → List ℕ → Option

-- option k of a row: head atom k if the body holds and no head atom before k is in the set; `earlier` are those before
unfoldable pub options_from : Rule → List ℕ → List ℕ → List Option
options_from r earlier [] = []
options_from r earlier (c ∷ cs) = gives c r.pos (r.neg ++ earlier) ∷ options_from r (earlier ++ (c ∷ [])) cs

-- a row without head is its own one option; 001 gives it none
unfoldable pub options_of : Rule → List ℕ → List Option
options_of r [] = bars r.pos r.neg ∷ []
options_of r (c ∷ cs) = options_from r [] (c ∷ cs)

unfoldable pub options : Rule → List Option
options r = options_of r r.head

-- the split programs: every choice of one option for each rule
unfoldable pub choices : List Rule → List (List Option)
choices [] = [] ∷ []
choices (r ∷ P) = gather (λ o. map (λ C. o ∷ C) (choices P)) (options r)

-- their number: the product of the head counts, a rule without head counting 1
unfoldable pub option_count : List ℕ → ℕ
option_count [] = 1
option_count (c ∷ cs) = length (c ∷ cs)

unfoldable pub split_number : List Rule → ℕ
split_number [] = 1
split_number (r ∷ P) = option_count r.head * split_number P

-- the reduct after Gelfond and Lifschitz: an option stays, without its "not", where no negative atom is in I,
-- whether or not its own atom is in I
unfoldable pub gl_row : ℕ → Option → List Definite
gl_row I (gives a pos neg) = cond (none_in neg I) (record { atom = a; body = pos } ∷ []) []
gl_row I (bars pos neg) = []

unfoldable pub gl_reduct : List Option → ℕ → List Definite
gl_reduct C I = gather (gl_row I) C

-- a rule without head is satisfied where its body does not hold
unfoldable pub bar_holds : ℕ → Option → Bool
bar_holds s (gives a pos neg) = true
bar_holds s (bars pos neg) = not (all_in pos s && none_in neg s)

-- s is an answer set of a split program: the rules without head are satisfied, and s is the least set closed under the reduct
unfoldable pub split_answer : List Option → ℕ → Bool
split_answer C s = every (bar_holds s) C && eqb (least (gl_reduct C s)) s

-- how many choices have s as answer set; pairs are checked on the set
unfoldable pub split_count : Program → ℕ → ℕ
split_count p s = length (keep (λ C. no_pair p.pairs s && split_answer C s) (choices (rules p)))
