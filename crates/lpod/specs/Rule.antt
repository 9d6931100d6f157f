-- Rules, pairs of opposites, and the program that a page and a flag word make.
use Rattle.std.specs.Prelude.{List, [], ◌∷◌, ◌++◌, map, ℕ}
use Rattle.atoms.specs.Atoms.{has, insert}
use Rattle.lpod.specs.Lists.{keep, below}

-- a rule: its head atoms from the most wanted on, its positive and its negative body. A head may repeat an atom.
-- 000 Definition 1; 001 (8)
pub record Rule : Type 0 where
  pub head : List ℕ
  pub pos : List ℕ
  pub neg : List ℕ

-- two atoms that exclude each other, in place of an atom and its strong negation. 000, after Definition 1
pub record Pair : Type 0 where
  pub one : ℕ
  pub other : ℕ

-- a page, read: how many atoms it has, its rows in order, its pairs; and the raised atoms
pub record Program : Type 0 where
  pub atoms : ℕ
  pub rows : List Rule
  pub pairs : List Pair
  pub flags : ℕ

-- a set is a number of 16 bits
abbrev pub most_atoms : ℕ
most_atoms = 16

-- a raised atom adds one row: that atom alone as head, no body
unfoldable pub fact : ℕ → Rule
fact a = record { head = a ∷ []; pos = []; neg = [] }

unfoldable pub raised : ℕ → List Rule
raised f = map fact (keep (has f) (below most_atoms))

-- the rules of the program: the page's rows, each a rule of its own, and the added rows
unfoldable pub rules : Program → List Rule
rules p = p.rows ++ raised p.flags

-- a list of atoms as a set; the atoms that stand in a head
unfoldable pub set_of : List ℕ → ℕ
set_of [] = 0
set_of (a ∷ l) = insert (set_of l) a

unfoldable pub head_atoms : List Rule → List ℕ
head_atoms [] = []
head_atoms (r ∷ P) = r.head ++ head_atoms P
