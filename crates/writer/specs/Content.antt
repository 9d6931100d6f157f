-- The page that a content makes, and the content that a page has. docs/PAGE.md has the format in words. That the two fit each other, and fit what
-- reading accepts, is proofs/Encoding.antt.
use Rattle.std.specs.Prelude.{List, [], ◌∷◌, ◌++◌, ℕ, zero, suc, ◌+◌, ◌*◌, ◌/◌, ◌%◌, length}
use Rattle.page.specs.Fields.{atom_count, row_count, literal_count, pair_count, header_length, literals_at, pairs_at, head_count, pos_count, neg_count}
use Rattle.page.specs.Program.{literals}

-- the number of atoms, three counts for each row, the literals row after row, two atoms for each pair
pub record Content : Type 0 where
  pub atoms : ℕ
  pub rows : List ℕ
  pub literals : List ℕ
  pub pairs : List ℕ

abbrev pub content : ℕ → List ℕ → List ℕ → List ℕ → Content
content atoms rows literals pairs = record { atoms = atoms; rows = rows; literals = literals; pairs = pairs }

-- how many rows and how many pairs there are
abbrev pub row_total : Content → ℕ
row_total c = length c.rows / 3

abbrev pub pair_total : Content → ℕ
pair_total c = length c.pairs / 2

-- ---- from a content to its page
-- the header's nine numbers: the form, the four counts, where the three parts start, and the whole length
unfoldable pub header_fields : ℕ → ℕ → ℕ → ℕ → List ℕ
header_fields atoms rows literals pairs =
    let literals_place = header_length + 4 * rows in
    let pairs_place = literals_place + literals in
    1 ∷ atoms ∷ rows ∷ literals ∷ pairs ∷ header_length ∷ literals_place ∷ pairs_place ∷ (pairs_place + 2 * pairs) ∷ []

-- each number in two bytes, the low one first
unfoldable pub two_bytes : List ℕ → List ℕ
two_bytes [] = []
two_bytes (n ∷ l) = n % 256 ∷ n / 256 ∷ two_bytes l

-- each row in four bytes: its three counts, and a zero
unfoldable pub four_bytes : List ℕ → List ℕ
four_bytes [] = []
four_bytes (head ∷ []) = []
four_bytes (head ∷ pos ∷ []) = []
four_bytes (head ∷ pos ∷ neg ∷ l) = head ∷ pos ∷ neg ∷ 0 ∷ four_bytes l

abbrev pub header_numbers : Content → List ℕ
header_numbers c = header_fields c.atoms (row_total c) (length c.literals) (pair_total c)

unfoldable pub header : Content → List ℕ
header c = two_bytes (header_numbers c)

-- the page: header, rows, literals, pairs
abbrev pub parts : Content → List ℕ
parts c = four_bytes c.rows ++ (c.literals ++ c.pairs)

unfoldable pub encode : Content → List ℕ
encode c = header c ++ parts c

-- ---- from a page to its content
-- the counts of n rows from row r on
unfoldable pub counts_from : List ℕ → ℕ → ℕ → List ℕ
counts_from page r zero = []
counts_from page r (suc n) = head_count page r ∷ pos_count page r ∷ neg_count page r ∷ counts_from page (r + 1) n

unfoldable pub content_of : List ℕ → Content
content_of page =
    content (atom_count page) (counts_from page 0 (row_count page)) (literals page (literals_at page) (literal_count page)) (literals page (pairs_at page) (2 * pair_count page))
