-- The bridge: the program that a page's bytes and a flag word mean. Literals follow row after row; in each row the head first,
-- then the positive body, then the negative body.
use Rattle.std.specs.Prelude.{List, [], ◌∷◌, ℕ, zero, suc, ◌+◌}
use Rattle.lpod.specs.Rule.{Rule, Pair, Program}
use Rattle.page.specs.Fields.{byte_at, atom_count, row_count, pair_count, literals_at, pairs_at, head_count, pos_count, neg_count, literals_of}

-- n atom numbers from place i on
unfoldable pub literals : List ℕ → ℕ → ℕ → List ℕ
literals page i zero = []
literals page i (suc n) = byte_at page i ∷ literals page (i + 1) n

-- row r, whose first literal stands at place i
unfoldable pub rule_at : List ℕ → ℕ → ℕ → Rule
rule_at page r i = record {
  head = literals page i (head_count page r);
  pos = literals page (i + head_count page r) (pos_count page r);
  neg = literals page (i + head_count page r + pos_count page r) (neg_count page r);
}

-- n rows from row r on, the first literal of row r at place i
unfoldable pub rows_from : List ℕ → ℕ → ℕ → ℕ → List Rule
rows_from page r i zero = []
rows_from page r i (suc n) = rule_at page r i ∷ rows_from page (r + 1) (i + literals_of page r) n

unfoldable pub rows_of : List ℕ → List Rule
rows_of page = rows_from page 0 (literals_at page) (row_count page)

-- n pairs from place i on
unfoldable pub pairs_from : List ℕ → ℕ → ℕ → List Pair
pairs_from page i zero = []
pairs_from page i (suc n) = record { one = byte_at page i; other = byte_at page (i + 1) } ∷ pairs_from page (i + 2) n

unfoldable pub pairs_of : List ℕ → List Pair
pairs_of page = pairs_from page (pairs_at page) (pair_count page)

-- the program of a page and a flag word
unfoldable pub program : List ℕ → ℕ → Program
program page flags = record { atoms = atom_count page; rows = rows_of page; pairs = pairs_of page; flags = flags }

-- the place of the first literal of row r
unfoldable pub literal_place : List ℕ → ℕ → ℕ
literal_place page zero = literals_at page
literal_place page (suc r) = literal_place page r + literals_of page r
