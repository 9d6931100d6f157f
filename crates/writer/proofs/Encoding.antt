-- The law of the format, in two halves. A page that a valid content makes is accepted, and that content is its own (`made_accepted`). An accepted page
-- is made by its own content, which is valid (`accepted_made`). So a page is accepted exactly where some valid content makes it.
-- A content that passes 3 makes a page that passes 1 to 4, so both have one number; and every byte of an accepted page is told by its content.
-- Assumes nothing.
use mathlib.Core.Path.{◌≡◌, refl, sym, ap, ◌∙◌}
use mathlib.Core.Bool.{Bool, true, false, ◌&&◌, ◌||◌, true≢false}
use mathlib.Core.List.{List, ◌++◌}
use mathlib.Core.Logic.{◌↔◌}
use Prim.Native.Nat.{ℕ, ◌+◌, ◌*◌, ◌%◌, ◌≤◌}
use native.Mathlib.Omega.{arith}
use lib.Dec.{T, eqb}
use lib.ListN.{length}
use lib.Seq.{get_or-append-add}
use borrow.Author.Tests.{eq-eqb, eqb-true, not-false}
use Rattle.atoms.proofs.Truth.{yes_true, true_yes, and_l, and_r}
use Rattle.lpod.specs.Lists.{every}
use Rattle.page.specs.Fields.{byte_at, atom_count, row_count, literal_count, pair_count, rows_at, literals_at, pairs_at, end_of}
use Rattle.page.specs.Program.{literals}
use Rattle.page.specs.Refusals.{first_that, numbered, counts_out, out_of_range, page_refusals, page_no}
use Rattle.page.proofs.Refusals.{page_numbered, given_denied}
use Rattle.page.proofs.Places.{length_literals}
use Rattle.page.proofs.RowSteps.{Bytes}
use Rattle.page.proofs.Accepted.{InRanges, counts_in, form_one, placed, whole_length, counts}
use Rattle.writer.specs.Content.{Content, row_total, pair_total, header_fields, four_bytes, header, parts, encode, counts_from, content_of}
use Rattle.writer.specs.Writes.{ragged, sizes_out, content_refusals, content_no}
use Rattle.writer.proofs.Bytes.{length_header, length_rows, length_page}
use Rattle.writer.proofs.Runs.{run_past, run_first, run_all, run_cut, words_from, words_run, rows_run, length_counts, counts_back}
use Rattle.writer.proofs.Header.{made_atoms, made_rows, made_literals, made_pairs, made_form, made_long, made_counts, made_literals_at, made_pairs_at, made_placed}

-- ---- a content that passes 3
or_none : (a b : Bool) → (a || b) ≡ false → (a ≡ false) × (b ≡ false)
or_none false b e = (refl, e)
or_none true b e = absurd (true≢false e)

module _ (c : Content) (h : sizes_out c ≡ false) where
  neither : (ragged c ≡ false) × (counts_out c.atoms (row_total c) (length c.literals) (pair_total c) ≡ false)
  unfolding sizes_out
  neither = or_none (ragged c) (counts_out c.atoms (row_total c) (length c.literals) (pair_total c)) h

  counts_fine : counts_out c.atoms (row_total c) (length c.literals) (pair_total c) ≡ false
  counts_fine = neither.1

  pub sizes_in : InRanges c.atoms (row_total c) (length c.literals) (pair_total c)
  sizes_in = counts_in _ _ _ _ counts_fine

  -- whole rows, and whole pairs
  pub whole : (length c.rows ≡ 3 * row_total c) × (length c.pairs ≡ 2 * pair_total c)
  unfolding ragged
  whole =
      let r = eqb (length c.rows % 3) 0 in
      let q = eqb (length c.pairs % 2) 0 in
      let t = true_yes (not-false (r && q) neither.0) in
      (omega (arith, eqb-true (length c.rows % 3) 0 (yes_true r (and_l r q t))), omega (arith, eqb-true (length c.pairs % 2) 0 (yes_true q (and_r r q t))))

  -- no page is longer than 866 bytes
  pub page_most : length (encode c) ≤ 866
  page_most = let i = sizes_in in omega (arith, length_page c, whole.1, i.rows_most, i.literals_most, i.pairs_most)

  -- the page passes 1 to 4, so its number is the content's
  pub same_number : page_no (encode c) ≡ content_no c
  unfolding page_no page_refusals content_no content_refusals first_that
  same_number = rw (made_long c, made_form c, made_counts c, counts_fine, made_placed c whole.1, h)

  -- what is read from the page is the content
  literals_back : literals (encode c) (literals_at (encode c)) (literal_count (encode c)) ≡ c.literals
  unfolding encode
  literals_back =
      rw (made_literals_at c, made_literals c)
      (run_past (header c) (parts c) (4 * row_total c) (length c.literals) (18 + 4 * row_total c) (omega (arith, length_header c))
      ∙ run_past (four_bytes c.rows) (c.literals ++ c.pairs) 0 (length c.literals) (4 * row_total c) (omega (arith, length_rows c.rows))
      ∙ run_first c.literals c.pairs)

  pairs_back : literals (encode c) (pairs_at (encode c)) (2 * pair_count (encode c)) ≡ c.pairs
  unfolding encode
  pairs_back =
      rw (made_pairs_at c, made_pairs c, ← whole.1)
      (run_past (header c) (parts c) (4 * row_total c + length c.literals) (length c.pairs) (18 + 4 * row_total c + length c.literals)
      (omega (arith, length_header c))
      ∙ run_past (four_bytes c.rows) (c.literals ++ c.pairs) (length c.literals) (length c.pairs) (4 * row_total c + length c.literals) (omega (arith, length_rows c.rows))
      ∙ run_past c.literals c.pairs 0 (length c.pairs) (length c.literals) (omega arith)
      ∙ run_all c.pairs)

  rows_back : counts_from (encode c) 0 (row_count (encode c)) ≡ c.rows
  unfolding encode
  rows_back =
      rw (made_rows c)
      (counts_back (encode c) c.rows (c.literals ++ c.pairs) 0 (row_total c) whole.0
      (λ j. ap (byte_at (encode c)) (omega (arith, length_header c)) ∙ get_or-append-add (header c) (parts c) j 0))

  pub content_back : content_of (encode c) ≡ c
  unfolding content_of
  content_back = rw (made_atoms c, rows_back, literals_back, pairs_back)

-- ---- a valid content: none of its refusals holds
pub content_numbered : (c : Content) → T (numbered (content_refusals c))
unfolding content_refusals numbered every
content_numbered c = tt

pub valid_sizes : (c : Content) → content_no c ≡ 0 → sizes_out c ≡ false
unfolding content_no content_refusals
valid_sizes c h = (given_denied (content_refusals c) (content_numbered c) h).0

-- ---- an accepted page
module _ (page : List ℕ) (bytes : Bytes page) (h : page_no page ≡ 0) where
  own_rows : row_total (content_of page) ≡ row_count page
  unfolding content_of
  own_rows = omega (arith, length_counts page 0 (row_count page))

  own_literals : length (content_of page).literals ≡ literal_count page
  unfolding content_of
  own_literals = length_literals page (literals_at page) (literal_count page)

  own_pairs : length (content_of page).pairs ≡ 2 * pair_count page
  unfolding content_of
  own_pairs = length_literals page (pairs_at page) (2 * pair_count page)

  own_pair_total : pair_total (content_of page) ≡ pair_count page
  own_pair_total = omega (arith, own_pairs)

  own_fields : words_from page 0 9 ≡ header_fields (atom_count page) (row_count page) (literal_count page) (pair_count page)
  unfolding words_from header_fields rows_at literals_at pairs_at end_of
  own_fields = let p = placed page h in rw (form_one page h, p.rows_offset_lem, p.literals_offset_lem, p.pairs_offset_lem, p.end_is)

  own_header : literals page 0 18 ≡ header (content_of page)
  unfolding header content_of
  own_header = words_run page bytes 0 9 ∙ rw (own_fields, own_rows, own_literals, own_pair_total)

  -- every byte is told by the content
  made_again : encode (content_of page) ≡ page
  unfolding encode content_of literals_at pairs_at rows_at end_of
  made_again =
      let R = row_count page in
      let L = literal_count page in
      let Q = pair_count page in
      let n : length page ≡ 18 + (4 * R + (L + 2 * Q)) = whole_length page h ∙ omega arith in
      sym (sym (run_all page) ∙ ap (literals page 0) n
      ∙ rw (
        run_cut page 0 18 (4 * R + (L + 2 * Q)),
        run_cut page 18 (4 * R) (L + 2 * Q),
        run_cut page (18 + 4 * R) L (2 * Q),
        own_header,
        rows_run page 0 R (λ k l. (counts page h k (omega arith)).spare_zero),
      ))

  own_sizes : sizes_out (content_of page) ≡ false
  unfolding sizes_out ragged page_no page_refusals out_of_range content_of
  own_sizes =
      let c = content_of page in
      rw (
        eq-eqb (length c.rows % 3) 0 (omega (arith, length_counts page 0 (row_count page))),
        eq-eqb (length c.pairs % 2) 0 (omega (arith, own_pairs)),
        own_rows,
        own_literals,
        own_pair_total,
        (given_denied (page_refusals page) (page_numbered page) h).1.1.0,
      )

  own_valid : content_no (content_of page) ≡ 0
  own_valid = sym (same_number (content_of page) own_sizes) ∙ ap page_no made_again ∙ h

-- ---- the law
-- this content is valid, and makes the page
pub record Makes (c : Content) (page : List ℕ) : Type 0 where
  pub valid : content_no c ≡ 0
  pub bytes : encode c ≡ page

pub made_accepted : (page : List ℕ) (c : Content) → Makes c page → (page_no page ≡ 0) × (content_of page ≡ c)
made_accepted page c m =
    let fine = valid_sizes c m.valid in
    (ap page_no (sym m.bytes) ∙ same_number c fine ∙ m.valid, ap content_of (sym m.bytes) ∙ content_back c fine)

pub accepted_made : (page : List ℕ) → Bytes page → page_no page ≡ 0 → Makes (content_of page) page
accepted_made page bytes h = record { valid = own_valid page bytes h; bytes = made_again page bytes h }

pub accepted_exactly : (page : List ℕ) → Bytes page → (page_no page ≡ 0) ↔ ((c : Content) × Makes c page)
accepted_exactly page bytes = ((λ h. (content_of page, accepted_made page bytes h)), (λ m. (made_accepted page m.0 m.1).0))
