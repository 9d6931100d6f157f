-- What a content means: the program that is given by counts, literals and pairs, without a page.
use Rattle.std.specs.Prelude.{List, [], ◌∷◌, ℕ, ◌+◌, take, drop}
use Rattle.lpod.specs.Rule.{Rule, Pair, Program}
use Rattle.writer.specs.Content.{Content}

-- the counts of each row divide the literals that are left: its head, its positive and its negative body, then the next row's
unfoldable pub rules_given : List ℕ → List ℕ → List Rule
rules_given [] l = []
rules_given (h ∷ []) l = []
rules_given (h ∷ p ∷ []) l = []
rules_given (h ∷ p ∷ n ∷ counts) l =
    record { head = take h l; pos = take p (drop h l); neg = take n (drop (h + p) l) } ∷ rules_given counts (drop (h + p + n) l)

unfoldable pub pairs_given : List ℕ → List Pair
pairs_given [] = []
pairs_given (a ∷ []) = []
pairs_given (a ∷ b ∷ l) = record { one = a; other = b } ∷ pairs_given l

-- with a flag word, a program
unfoldable pub program_given : Content → ℕ → Program
program_given c flags = record { atoms = c.atoms; rows = rules_given c.rows c.literals; pairs = pairs_given c.pairs; flags = flags }
