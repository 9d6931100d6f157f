-- Refusals: an ordered list of numbers, each with its condition; the first whose condition holds is given, and 0 where none does.
use Rattle.std.specs.Prelude.{◌≡◌, Bool, true, ◌&&◌, not, cond, List, [], ◌∷◌, ◌++◌, map, ℕ, ◌*◌, ◌-◌, T, leb, ltb, eqb, length}
use Rattle.atoms.specs.Atoms.{has}
use Rattle.lpod.specs.Lists.{every, some, below, numbers}
use Rattle.lpod.specs.Rule.{Rule, Pair, most_atoms}
use Rattle.page.specs.Fields as fields
use Rattle.page.specs.Program.{literals, literal_place, rows_of, pairs_of}

pub record Refusal : Type 0 where
  pub number : ℕ
  pub holds : Bool

abbrev pub refuse : ℕ → Bool → Refusal
refuse n b = record { number = n; holds = b }

unfoldable pub first_that : List Refusal → ℕ
first_that [] = 0
first_that (r ∷ rs) = cond r.holds r.number (first_that rs)

-- said of such a list: none of it holds; its numbers are all above 0; n is the number of the first that holds
unfoldable pub none_holds : List Refusal → Bool
none_holds l = every (λ r. not r.holds) l

unfoldable pub numbered : List Refusal → Bool
numbered l = every (λ r. ltb 0 r.number) l

pub record FirstOf (l : List Refusal) (n : ℕ) : Type 0 where
  pub before : List Refusal
  pub after : List Refusal
  pub splits : l ≡ before ++ (refuse n true ∷ after)
  pub none : T (none_holds before)

-- ---- the conditions, each read where none before it holds
-- 1: shorter than the header
unfoldable pub short : List ℕ → Bool
short page = ltb (length page) fields.header_length

-- 2: the form is not 1
unfoldable pub other_form : List ℕ → Bool
other_form page = not (eqb (fields.form_of page) 1)

-- 3: atoms, rows, literals or pairs outside their range
unfoldable pub in_range : ℕ → ℕ → ℕ → Bool
in_range low high n = leb low n && leb n high

unfoldable pub counts_out : ℕ → ℕ → ℕ → ℕ → Bool
counts_out atoms rows literals pairs = not (in_range 1 16 atoms && (in_range 0 32 rows && (in_range 0 704 literals && in_range 0 8 pairs)))

unfoldable pub out_of_range : List ℕ → Bool
out_of_range page = counts_out (fields.atom_count page) (fields.row_count page) (fields.literal_count page) (fields.pair_count page)

-- 4: an offset or the whole length is not as it must be, or is not the lent length
unfoldable pub misplaced : List ℕ → Bool
misplaced page =
    not (eqb (fields.rows_offset page) (fields.rows_at page)
    && (eqb (fields.literals_offset page) (fields.literals_at page)
    && (eqb (fields.pairs_offset page) (fields.pairs_at page) && (eqb (fields.whole_length page) (fields.end_of page) && eqb (fields.whole_length page) (length page)))))

-- 5: a row count too large, a fourth byte not zero, or counts that do not add up to the literals
unfoldable pub row_fits : List ℕ → ℕ → Bool
row_fits page r = leb (fields.head_count page r) 6 && (leb (fields.pos_count page r) 8 && (leb (fields.neg_count page r) 8 && eqb (fields.spare_byte page r) 0))

unfoldable pub bad_counts : List ℕ → Bool
bad_counts page = not (every (row_fits page) (below (fields.row_count page)) && eqb (literal_place page (fields.row_count page)) (fields.pairs_at page))

-- 6: an atom number that is not below A, in literals or pairs
unfoldable pub is_below : ℕ → ℕ → Bool
is_below n a = ltb a n

unfoldable pub atoms_out : List ℕ → Bool
atoms_out page =
    not (every (is_below (fields.atom_count page)) (literals page (fields.literals_at page) (fields.literal_count page))
    && every (is_below (fields.atom_count page)) (literals page (fields.pairs_at page) (2 * fields.pair_count page)))

-- 7: a body list that does not rise strictly
unfoldable pub rises_above : ℕ → List ℕ → Bool
rises_above a [] = true
rises_above a (b ∷ l) = ltb a b && rises_above b l

unfoldable pub rises : List ℕ → Bool
rises [] = true
rises (a ∷ l) = rises_above a l

unfoldable pub bodies_rise : Rule → Bool
bodies_rise r = rises r.pos && rises r.neg

unfoldable pub unsorted : List ℕ → Bool
unsorted page = not (every bodies_rise (rows_of page))

-- 8: a pair whose first atom is not below its second, first members that do not rise strictly, or an atom in two pairs
unfoldable pub in_order : Pair → Bool
in_order p = ltb p.one p.other

unfoldable pub apart : Pair → Pair → Bool
apart p q =
    not (eqb p.one q.one) && (not (eqb p.one q.other) && (not (eqb p.other q.one) && not (eqb p.other q.other)))

unfoldable pub firsts : List Pair → List ℕ
firsts Q = map (λ q. q.one) Q

unfoldable pub all_apart : List Pair → Bool
all_apart [] = true
all_apart (p ∷ Q) = every (apart p) Q && all_apart Q

unfoldable pub bad_pairs : List ℕ → Bool
bad_pairs page =
    not (every in_order (pairs_of page) && (rises (firsts (pairs_of page)) && all_apart (pairs_of page)))

-- 9: a bit at A or above, in a flag word; in a given set
unfoldable pub bits_from : ℕ → ℕ → Bool
bits_from a s = some (has s) (numbers a (most_atoms - a))

unfoldable pub flags_out : List ℕ → ℕ → Bool
flags_out page flags = bits_from (fields.atom_count page) flags

unfoldable pub set_out : List ℕ → ℕ → Bool
set_out page set = bits_from (fields.atom_count page) set

-- ---- the lists, in the order in which they are given
-- of rows, literals and pairs, which reading and writing share; of a whole page
abbrev pub part_refusals : List ℕ → List Refusal
part_refusals page = refuse 5 (bad_counts page) ∷ refuse 6 (atoms_out page) ∷ refuse 7 (unsorted page) ∷ refuse 8 (bad_pairs page) ∷ []

unfoldable pub page_refusals : List ℕ → List Refusal
page_refusals page = refuse 1 (short page) ∷ refuse 2 (other_form page) ∷ refuse 3 (out_of_range page) ∷ refuse 4 (misplaced page) ∷ part_refusals page

unfoldable pub flag_refusals : List ℕ → ℕ → List Refusal
flag_refusals page flags = page_refusals page ++ (refuse 9 (flags_out page flags) ∷ [])

unfoldable pub set_refusals : List ℕ → ℕ → List Refusal
set_refusals page set = refuse 9 (set_out page set) ∷ []

unfoldable pub test_refusals : List ℕ → ℕ → ℕ → List Refusal
test_refusals page flags set = flag_refusals page flags ++ set_refusals page set

-- the page's own number; the number of a call with a page and a flag word; of one with a set besides
unfoldable pub page_no : List ℕ → ℕ
page_no page = first_that (page_refusals page)

unfoldable pub flag_no : List ℕ → ℕ → ℕ
flag_no page flags = first_that (flag_refusals page flags)

unfoldable pub test_no : List ℕ → ℕ → ℕ → ℕ
test_no page flags set = first_that (test_refusals page flags set)

-- the number that a given set adds to a call, read where the page is accepted
unfoldable pub set_no : List ℕ → ℕ → ℕ
set_no page set = first_that (set_refusals page set)
