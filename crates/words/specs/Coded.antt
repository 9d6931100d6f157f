-- A row and a pair in one word each, as the tests of sets take them: what such a word means, and the words of a page. The meaning of a page is not
-- stated by these: on an accepted page the words mean its program, which is `words_mean` of
-- proofs/Back.antt.
use Rattle.std.specs.Prelude.{cond, List, [], ◌∷◌, ◌++◌, map, ℕ, zero, suc, ◌+◌, ◌*◌, ◌/◌, ◌%◌, ltb, length}
use Rattle.atoms.specs.Atoms.{has}
use Rattle.lpod.specs.Lists.{keep, below}
use Rattle.lpod.specs.Rule.{Rule, Pair, Program, most_atoms, set_of, raised}
use Rattle.page.specs.Fields.{row_count, pair_count, literals_at, pairs_at}
use Rattle.page.specs.Program.{rows_from, pairs_from}

-- ---- a row's word, from its lowest bit on: 16 bits for the positive body as a set, 16 for the negative body, 8 for the number of head atoms, and
-- 24 for the head atoms, four bits each, the first one lowest
unfoldable pub pos_set : ℕ → ℕ
pos_set w = w % 65536

unfoldable pub neg_set : ℕ → ℕ
neg_set w = w / 65536 % 65536

unfoldable pub head_length : ℕ → ℕ
head_length w = w / 4294967296 % 256

unfoldable pub head_digits : ℕ → ℕ
head_digits w = w / 1099511627776

-- the atoms of a set, rising; n digits of four bits, the lowest first
unfoldable pub atoms_in : ℕ → List ℕ
atoms_in s = keep (has s) (below most_atoms)

unfoldable pub digits : ℕ → ℕ → List ℕ
digits zero h = []
digits (suc n) h = h % 16 ∷ digits n (h / 16)

-- the rule that a word means; the pair, one atom in the lower 8 bits and one in the upper
unfoldable pub rule_in : ℕ → Rule
rule_in w = record { head = digits (head_length w) (head_digits w); pos = atoms_in (pos_set w); neg = atoms_in (neg_set w) }

unfoldable pub pair_in : ℕ → Pair
pair_in w = record { one = w % 256; other = w / 256 }

-- rows in words; pairs in words
unfoldable pub rules_in : List ℕ → List Rule
rules_in rows = map rule_in rows

unfoldable pub pairs_in : List ℕ → List Pair
pairs_in pairs = map pair_in pairs

-- the rules of rows in words, and of the raised atoms
unfoldable pub rules_with : List ℕ → ℕ → List Rule
rules_with rows flags = rules_in rows ++ raised flags

-- rows and pairs in words, with a flag word: a program. Of how many atoms is not said there, and no test asks
unfoldable pub program_in : List ℕ → List ℕ → ℕ → Program
program_in rows pairs flags = record { atoms = most_atoms; rows = rules_in rows; pairs = pairs_in pairs; flags = flags }

-- ---- the word of a rule. In a body a number of 16 or more is no atom; in a head it counts by its lowest four bits, and each place after the sixth
-- reads as atom 0. An accepted page has neither
unfoldable pub atoms_of : List ℕ → ℕ
atoms_of l = set_of (keep (λ a. ltb a 16) l)

unfoldable pub packed : List ℕ → ℕ
packed [] = 0
packed (a ∷ l) = a % 16 + 16 * packed l

unfoldable pub row_word : Rule → ℕ
row_word r = atoms_of r.pos + 65536 * atoms_of r.neg + 4294967296 * length r.head + 1099511627776 * (packed r.head % 16777216)

unfoldable pub pair_word : Pair → ℕ
pair_word q = q.one + 256 * q.other

-- ---- the words of a page: of its rows, at most 32, and of its pairs, at most 8. An accepted page has no more
unfoldable pub at_most : ℕ → ℕ → ℕ
at_most most n = cond (ltb n most) n most

unfoldable pub row_total : List ℕ → ℕ
row_total page = at_most 32 (row_count page)

unfoldable pub pair_total : List ℕ → ℕ
pair_total page = at_most 8 (pair_count page)

unfoldable pub row_words : List ℕ → List ℕ
row_words page = map row_word (rows_from page 0 (literals_at page) (row_total page))

unfoldable pub pair_words : List ℕ → List ℕ
pair_words page = map pair_word (pairs_from page (pairs_at page) (pair_total page))
