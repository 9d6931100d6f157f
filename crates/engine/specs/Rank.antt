-- Which of two sets is preferred, told in one pass over the rows: what the pass finds is the least degree that a row has in one set alone, if there is one.
use Rattle.std.specs.Prelude.{◌≡◌, Bool, true, false, ◌||◌, not, cond, List, [], ◌∷◌, ℕ, eqb, ltb, Option, Some, None}
use Rattle.atoms.specs.Atoms.{inside, common}
use Rattle.lpod.specs.Rule.{Rule}
use Rattle.lpod.specs.Degree.{degree}
use Rattle.lpod.specs.Preferred.{preferred}
use Rattle.words.specs.Coded.{program_in}
use Rattle.engine.specs.declared.rank.Difference.{Difference}

-- the relation of lpod, for rows in words and a flag word: it asks for no pairs, and none are given
abbrev pub prefers : List ℕ → ℕ → ℕ → ℕ → Bool
prefers rows flags = preferred (program_in rows [] flags)

-- the statement of the call, for any rows, flag word and sets
abbrev pub PreferredSays : List ℕ → ℕ → ℕ → ℕ → Bool → Type 0
PreferredSays rows flags M N r = r ≡ prefers rows flags M N

-- ---- how the pass goes. The statement does not rest on these: they stand between the code and the relation
-- a row has degree d in one set alone, in the first or else in the second: it counts where it is the least so far; 0 is no degree
unfoldable pub added : Option Difference → ℕ → Bool → Difference
added None d first = record { degree = d; first = first; second = not first }
added (Some f) d first =
    cond (ltb f.degree d) f
    (cond (eqb f.degree d) (record { degree = d; first = f.first || first; second = f.second || not first })
    (record { degree = d; first = first; second = not first }))

unfoldable pub noted : Option Difference → ℕ → Bool → Option Difference
noted f d first = cond (eqb d 0) f (Some (added f d first))

-- a row with its degrees in the two sets
unfoldable pub seen : Option Difference → ℕ → ℕ → Option Difference
seen f d e = cond (eqb d e) f (noted (noted f d true) e false)

-- the rows, one after the other
unfoldable pub rows_seen : Option Difference → List Rule → ℕ → ℕ → Option Difference
rows_seen f [] M N = f
rows_seen f (r ∷ P) M N = rows_seen (seen f (degree M r) (degree N r)) P M N

-- the rows of the raised atoms: one of them has degree 1 in M alone where M holds its atom and N does not
unfoldable pub raised_seen : ℕ → ℕ → ℕ → Option Difference
raised_seen flags M N =
    cond (not (inside (common flags M) N) || not (inside (common flags N) M))
    (Some (record { degree = 1; first = not (inside (common flags M) N); second = not (inside (common flags N) M) })) None
