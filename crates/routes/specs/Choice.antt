-- What the split test has chosen: rows, each with one of its options. The test's result is not stated by these: they stand between the code and the
-- definition of split programs.
use Rattle.std.specs.Prelude.{List, [], ◌∷◌, ◌++◌, map, reverse, ℕ, length, get_or, take}
use Rattle.atoms.specs.Atoms.{has}
use Rattle.lpod.specs.Lists.{keep, below}
use Rattle.lpod.specs.Rule.{Rule, most_atoms}
use Rattle.lpod.specs.Split.{Option, gives, bars, choices, split_answer}
use Rattle.words.specs.Coded.{rule_in}
use Rattle.routes.specs.declared.split.Chosen.{Chosen}

-- option k of a row, counted from 0, read off its head. A row without head is its own one option
unfoldable pub option_in : Rule → ℕ → List ℕ → Option
option_in r k [] = bars r.pos r.neg
option_in r k (c ∷ cs) = gives (get_or (c ∷ cs) k 0) r.pos (r.neg ++ take k (c ∷ cs))

unfoldable pub option_at : Rule → ℕ → Option
option_at r k = option_in r k r.head

-- the option that is taken of one row; of each row. They are chosen from the last row on
unfoldable pub chosen : Chosen → Option
chosen c = option_at (rule_in c.row) c.option

unfoldable pub all_chosen : List Chosen → List Option
all_chosen l = map chosen (reverse l)

-- the one option of each row that a flag adds
unfoldable pub flag_options : ℕ → List Option
flag_options flags = map (λ a. gives a [] []) (keep (has flags) (below most_atoms))

-- the split program of rows with their options, and of the flags
unfoldable pub program_of : List Chosen → ℕ → List Option
program_of l flags = all_chosen l ++ flag_options flags

-- how many choices for the rows P, with the options O of the rows after them, have s as answer set
unfoldable pub count_from : List Rule → ℕ → ℕ → List Option → ℕ
count_from P flags s O = length (keep (λ C. split_answer (C ++ (O ++ flag_options flags)) s) (choices P))
