-- The fields of a page and where its parts stand. A byte past the end reads as 0, so every definition takes every list of bytes.
use Rattle.std.specs.Prelude.{List, ℕ, ◌+◌, ◌*◌, get_or}

abbrev pub byte_at : List ℕ → ℕ → ℕ
byte_at page i = get_or page i 0

-- two bytes, the low one first
unfoldable pub word_at : List ℕ → ℕ → ℕ
word_at page i = byte_at page i + 256 * byte_at page (i + 1)

-- ---- what the header states
abbrev pub form_of : List ℕ → ℕ
form_of page = word_at page 0

abbrev pub atom_count : List ℕ → ℕ
atom_count page = word_at page 2

abbrev pub row_count : List ℕ → ℕ
row_count page = word_at page 4

abbrev pub literal_count : List ℕ → ℕ
literal_count page = word_at page 6

abbrev pub pair_count : List ℕ → ℕ
pair_count page = word_at page 8

abbrev pub rows_offset : List ℕ → ℕ
rows_offset page = word_at page 10

abbrev pub literals_offset : List ℕ → ℕ
literals_offset page = word_at page 12

abbrev pub pairs_offset : List ℕ → ℕ
pairs_offset page = word_at page 14

abbrev pub whole_length : List ℕ → ℕ
whole_length page = word_at page 16

-- ---- where the parts must start, and where the page must end
abbrev pub header_length : ℕ
header_length = 18

unfoldable pub rows_at : List ℕ → ℕ
rows_at page = header_length

unfoldable pub literals_at : List ℕ → ℕ
literals_at page = rows_at page + 4 * row_count page

unfoldable pub pairs_at : List ℕ → ℕ
pairs_at page = literals_at page + literal_count page

unfoldable pub end_of : List ℕ → ℕ
end_of page = pairs_at page + 2 * pair_count page

-- ---- the four bytes of row r: three counts, and one that is zero
unfoldable pub head_count : List ℕ → ℕ → ℕ
head_count page r = byte_at page (rows_at page + 4 * r)

unfoldable pub pos_count : List ℕ → ℕ → ℕ
pos_count page r = byte_at page (rows_at page + 4 * r + 1)

unfoldable pub neg_count : List ℕ → ℕ → ℕ
neg_count page r = byte_at page (rows_at page + 4 * r + 2)

unfoldable pub spare_byte : List ℕ → ℕ → ℕ
spare_byte page r = byte_at page (rows_at page + 4 * r + 3)

-- how many literals row r has; how many the first n rows have
unfoldable pub literals_of : List ℕ → ℕ → ℕ
literals_of page r = head_count page r + pos_count page r + neg_count page r
