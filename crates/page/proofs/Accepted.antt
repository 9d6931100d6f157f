-- What acceptance gives: the header's ranges, the page's length, small counts in every row, places that stay inside, atoms below A, bodies that
-- rise. Each is one of the refusals that does not hold, read back. Assumes nothing.
use mathlib.Core.Path.{◌≡◌, refl, sym, ◌∙◌}
use mathlib.Core.Bool.{Bool, true, false, ◌&&◌, false≢true}
use mathlib.Core.List.{List}
use Prim.Native.Nat.{ℕ, ◌*◌, ◌≤◌, ◌<◌}
use native.Mathlib.Omega.{arith}
use lib.Dec.{leb, eqb}
use lib.ListN.{length}
use borrow.Author.Tests.{ltb-false, leb-true, eqb-true, not-false}
use Rattle.atoms.proofs.Truth.{yes_true, true_yes}
use Rattle.lpod.specs.Lists.{every, below}
use Rattle.lpod.proofs.Lists.{every_at, numbers_in}
use Rattle.page.specs.Fields as fields
use Rattle.page.specs.Program.{literals, literal_place, rows_of}
use Rattle.page.specs.Refusals
use Rattle.page.proofs.Refusals.{page_numbered, AllDenied, given_denied}
use Rattle.page.proofs.Places.{place_up}

-- four numbers, each in its range; those of a page
pub record InRanges (atoms rows literals pairs : ℕ) : Type 0 where
  pub atoms_least : 1 ≤ atoms
  pub atoms_most : atoms ≤ 16
  pub rows_most : rows ≤ 32
  pub literals_most : literals ≤ 704
  pub pairs_most : pairs ≤ 8

abbrev pub Ranges : List ℕ → Type 0
Ranges page = InRanges (fields.atom_count page) (fields.row_count page) (fields.literal_count page) (fields.pair_count page)

-- the offsets and the whole length are as they must be
pub record Placed (page : List ℕ) : Type 0 where
  pub rows_offset_lem : fields.rows_offset page ≡ fields.rows_at page
  pub literals_offset_lem : fields.literals_offset page ≡ fields.literals_at page
  pub pairs_offset_lem : fields.pairs_offset page ≡ fields.pairs_at page
  pub end_is : fields.whole_length page ≡ fields.end_of page
  pub length_is : fields.whole_length page ≡ length page

pub record SmallCounts (page : List ℕ) (r : ℕ) : Type 0 where
  pub head_most : fields.head_count page r ≤ 6
  pub pos_most : fields.pos_count page r ≤ 8
  pub neg_most : fields.neg_count page r ≤ 8
  pub spare_zero : fields.spare_byte page r ≡ 0

-- ---- the parts of a condition
both_parts : (a b : Bool) → (a && b) ≡ true → (a ≡ true) × (b ≡ true)
both_parts true true e = (refl, refl)
both_parts true false e = absurd (false≢true e)
both_parts false b e = absurd (false≢true e)

in_range_lem : (low high n : ℕ) → Refusals.in_range low high n ≡ true → (low ≤ n) × (n ≤ high)
unfolding Refusals.in_range
in_range_lem low high n e =
    let p = both_parts (leb low n) (leb n high) e in
    (leb-true low n p.0, leb-true n high p.1)

pub counts_in : (atoms rows literals pairs : ℕ) → Refusals.counts_out atoms rows literals pairs ≡ false → InRanges atoms rows literals pairs
unfolding Refusals.counts_out
counts_in atoms rows literals pairs h =
    let a = Refusals.in_range 1 16 atoms in
    let r = Refusals.in_range 0 32 rows in
    let l = Refusals.in_range 0 704 literals in
    let q = Refusals.in_range 0 8 pairs in
    let p = both_parts a (r && (l && q)) (not-false (a && (r && (l && q))) h) in
    let p' = both_parts r (l && q) p.1 in
    let p'' = both_parts l q p'.1 in
    let m = in_range_lem 1 16 atoms p.0 in
    record {
      atoms_least = m.0;
      atoms_most = m.1;
      rows_most = (in_range_lem 0 32 rows p'.0).1;
      literals_most = (in_range_lem 0 704 literals p''.0).1;
      pairs_most = (in_range_lem 0 8 pairs p''.1).1;
    }

-- ---- an accepted page
module _ (page : List ℕ) (h : Refusals.page_no page ≡ 0) where
  denials : AllDenied (Refusals.page_refusals page)
  unfolding Refusals.page_no
  denials = given_denied (Refusals.page_refusals page) (page_numbered page) h

  pub long_enough : fields.header_length ≤ length page
  unfolding Refusals.page_refusals Refusals.short
  long_enough = ltb-false (length page) fields.header_length denials.0

  pub form_one : fields.form_of page ≡ 1
  unfolding Refusals.page_refusals Refusals.other_form
  form_one = eqb-true (fields.form_of page) 1 (not-false (eqb (fields.form_of page) 1) denials.1.0)

  pub ranges : Ranges page
  unfolding Refusals.page_refusals Refusals.out_of_range
  ranges = counts_in _ _ _ _ denials.1.1.0

  pub placed : Placed page
  unfolding Refusals.page_refusals Refusals.misplaced
  placed =
      let r = eqb (fields.rows_offset page) (fields.rows_at page) in
      let l = eqb (fields.literals_offset page) (fields.literals_at page) in
      let q = eqb (fields.pairs_offset page) (fields.pairs_at page) in
      let e = eqb (fields.whole_length page) (fields.end_of page) in
      let n = eqb (fields.whole_length page) (length page) in
      let p = both_parts r (l && (q && (e && n))) (not-false (r && (l && (q && (e && n)))) denials.1.1.1.0) in
      let p' = both_parts l (q && (e && n)) p.1 in
      let p'' = both_parts q (e && n) p'.1 in
      let p''' = both_parts e n p''.1 in
      record {
        rows_offset_lem = eqb-true (fields.rows_offset page) (fields.rows_at page) p.0;
        literals_offset_lem = eqb-true (fields.literals_offset page) (fields.literals_at page) p'.0;
        pairs_offset_lem = eqb-true (fields.pairs_offset page) (fields.pairs_at page) p''.0;
        end_is = eqb-true (fields.whole_length page) (fields.end_of page) p'''.0;
        length_is = eqb-true (fields.whole_length page) (length page) p'''.1;
      }

  pub whole_length : length page ≡ fields.end_of page
  whole_length = sym placed.length_is ∙ placed.end_is

  rows_fit : (every (Refusals.row_fits page) (below (fields.row_count page)) ≡ true) × (literal_place page (fields.row_count page) ≡ fields.pairs_at page)
  unfolding Refusals.page_refusals Refusals.bad_counts
  rows_fit =
      let f = every (Refusals.row_fits page) (below (fields.row_count page)) in
      let e = eqb (literal_place page (fields.row_count page)) (fields.pairs_at page) in
      let p = both_parts f e (not-false (f && e) denials.1.1.1.1.0) in
      (p.0, eqb-true (literal_place page (fields.row_count page)) (fields.pairs_at page) p.1)

  pub counts : (r : ℕ) → r < fields.row_count page → SmallCounts page r
  unfolding Refusals.row_fits
  counts r l =
      let a = leb (fields.head_count page r) 6 in
      let b = leb (fields.pos_count page r) 8 in
      let c = leb (fields.neg_count page r) 8 in
      let d = eqb (fields.spare_byte page r) 0 in
      let m = numbers_in 0 (fields.row_count page) r (omega arith) (omega arith) in
      let t = every_at (Refusals.row_fits page) (below (fields.row_count page)) (true_yes rows_fit.0) r m in
      let p = both_parts a (b && (c && d)) (yes_true (a && (b && (c && d))) t) in
      let p' = both_parts b (c && d) p.1 in
      let p'' = both_parts c d p'.1 in
      record {
        head_most = leb-true (fields.head_count page r) 6 p.0;
        pos_most = leb-true (fields.pos_count page r) 8 p'.0;
        neg_most = leb-true (fields.neg_count page r) 8 p''.0;
        spare_zero = eqb-true (fields.spare_byte page r) 0 p''.1;
      }

  -- the literals of the rows end where the pairs start; so every place lies inside the page
  pub places_end : literal_place page (fields.row_count page) ≡ fields.pairs_at page
  places_end = rows_fit.1

  pub places_inside : (r : ℕ) → r ≤ fields.row_count page → literal_place page r ≤ fields.pairs_at page
  places_inside r l = rw (← places_end) (place_up page r (fields.row_count page) l)

  -- every literal, and every byte of the pairs, is below A
  pub all_below_atoms : (every (Refusals.is_below (fields.atom_count page)) (literals page (fields.literals_at page) (fields.literal_count page)) ≡ true)
      × (every (Refusals.is_below (fields.atom_count page)) (literals page (fields.pairs_at page) (2 * fields.pair_count page)) ≡ true)
  unfolding Refusals.page_refusals Refusals.atoms_out
  all_below_atoms =
      let a = every (Refusals.is_below (fields.atom_count page)) (literals page (fields.literals_at page) (fields.literal_count page)) in
      let b = every (Refusals.is_below (fields.atom_count page)) (literals page (fields.pairs_at page) (2 * fields.pair_count page)) in
      both_parts a b (not-false (a && b) denials.1.1.1.1.1.0)

  -- both bodies of every row rise
  pub bodies_rise_lem : every Refusals.bodies_rise (rows_of page) ≡ true
  unfolding Refusals.page_refusals Refusals.unsorted
  bodies_rise_lem = not-false (every Refusals.bodies_rise (rows_of page)) denials.1.1.1.1.1.1.0
