-- Which of two sets is preferred by rows in words alone, without the rows of raised atoms; and the degrees of one set, row by row, as they are kept for
-- a search.
use Rattle.std.specs.Prelude.{◌≡◌, Bool, List, map, ℕ, ltb, length, take}
use Rattle.lpod.specs.Degree.{degree}
use Rattle.lpod.specs.Preferred.{first_more, within, longest}
use Rattle.words.specs.Coded.{head_length, rules_in}

unfoldable pub over : List ℕ → ℕ → ℕ → Bool
over rows M N = first_more (within (rules_in rows)) (longest (rules_in rows)) M N

-- the first entries are the degrees of M
abbrev pub Grades : List ℕ → List ℕ → ℕ → Type 0
Grades rows grades M = take (length rows) grades ≡ map (degree M) (rules_in rows)

-- the rows that rank: those with two head atoms or more. Any other has degree 1 in every set that satisfies it
abbrev pub ranks : ℕ → Bool
ranks w = ltb 1 (head_length w)
