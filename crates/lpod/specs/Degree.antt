-- How well a set satisfies a row. 000 Definition 5; 001, end of section 2.2
use Rattle.std.specs.Prelude.{cond, List, [], ◌∷◌, map, ℕ, suc}
use Rattle.atoms.specs.Atoms.{has}
use Rattle.lpod.specs.Rule.{Rule, Program}
use Rattle.lpod.specs.Satisfied.{body_holds}

-- the place, counted from k, of the first of the atoms that is in s; 0, which is no place, where none is
unfoldable pub place : ℕ → List ℕ → ℕ → ℕ
place k [] s = 0
place k (a ∷ l) s = cond (has s a) k (place (suc k) l s)

-- 1 where the body does not hold, else the place of the first head atom in s.
-- The value 0 is for a row that s does not satisfy: an answer set has none
unfoldable pub degree : ℕ → Rule → ℕ
degree s r = cond (body_holds r s) (place 1 r.head s) 1

-- of the page's rows, in row order
unfoldable pub degrees : Program → ℕ → List ℕ
degrees p s = map (degree s) p.rows
