-- What the header of a page that is made states, and that it is what reading asks for. By computing. Assumes nothing.
use mathlib.Core.Path.{◌≡◌, refl, sym, ◌∙◌}
use mathlib.Core.Bool.{false}
use Prim.Native.Nat.{ℕ, ◌+◌, ◌*◌, ◌/◌, ◌%◌}
use native.Mathlib.Omega.{arith}
use lib.ListN.{length}
use borrow.Author.Tests.{le-ltb, eq-eqb}
use Rattle.page.specs.Fields.{word_at, atom_count, row_count, literal_count, pair_count, rows_at, literals_at, pairs_at, end_of}
use Rattle.page.specs.Fields.{rows_offset, literals_offset, pairs_offset, whole_length}
use Rattle.page.specs.Refusals.{short, other_form, counts_out, out_of_range, misplaced}
use Rattle.writer.specs.Content.{Content, row_total, pair_total, header_fields, two_bytes, header, encode}
use Rattle.writer.proofs.Bytes.{length_page}

low_high : (n : ℕ) → n % 256 + 256 * (n / 256) ≡ n
low_high n = omega arith

module _ (c : Content) where
  pub made_atoms : atom_count (encode c) ≡ c.atoms
  unfolding word_at encode header header_fields two_bytes
  made_atoms = low_high c.atoms

  pub made_rows : row_count (encode c) ≡ row_total c
  unfolding word_at encode header header_fields two_bytes
  made_rows = low_high (row_total c)

  pub made_literals : literal_count (encode c) ≡ length c.literals
  unfolding word_at encode header header_fields two_bytes
  made_literals = low_high (length c.literals)

  pub made_pairs : pair_count (encode c) ≡ pair_total c
  unfolding word_at encode header header_fields two_bytes
  made_pairs = low_high (pair_total c)

  made_rows_offset : rows_offset (encode c) ≡ 18
  unfolding word_at encode header header_fields two_bytes
  made_rows_offset = refl

  made_literals_offset : literals_offset (encode c) ≡ 18 + 4 * row_total c
  unfolding word_at encode header header_fields two_bytes
  made_literals_offset = low_high (18 + 4 * row_total c)

  made_pairs_offset : pairs_offset (encode c) ≡ 18 + 4 * row_total c + length c.literals
  unfolding word_at encode header header_fields two_bytes
  made_pairs_offset = low_high (18 + 4 * row_total c + length c.literals)

  made_whole : whole_length (encode c) ≡ 18 + 4 * row_total c + length c.literals + 2 * pair_total c
  unfolding word_at encode header header_fields two_bytes
  made_whole = low_high (18 + 4 * row_total c + length c.literals + 2 * pair_total c)

  pub made_form : other_form (encode c) ≡ false
  unfolding other_form word_at encode header header_fields two_bytes
  made_form = refl

  pub made_long : short (encode c) ≡ false
  unfolding short
  made_long = le-ltb (length (encode c)) 18 (omega (arith, length_page c))

  pub made_counts : out_of_range (encode c) ≡ counts_out c.atoms (row_total c) (length c.literals) (pair_total c)
  unfolding out_of_range
  made_counts = rw (made_atoms, made_rows, made_literals, made_pairs)

  pub made_literals_at : literals_at (encode c) ≡ 18 + 4 * row_total c
  unfolding literals_at rows_at
  made_literals_at = rw made_rows

  pub made_pairs_at : pairs_at (encode c) ≡ 18 + 4 * row_total c + length c.literals
  unfolding pairs_at
  made_pairs_at = rw (made_literals_at, made_literals)

  made_end : end_of (encode c) ≡ 18 + 4 * row_total c + length c.literals + 2 * pair_total c
  unfolding end_of
  made_end = rw (made_pairs_at, made_pairs)

  -- offsets and lengths are in place where the pairs are whole
  pub made_placed : length c.pairs ≡ 2 * pair_total c → misplaced (encode c) ≡ false
  unfolding misplaced rows_at
  made_placed q =
      let e = encode c in
      let end : whole_length e ≡ length e = made_whole ∙ omega (arith, length_page c) in
      rw (
        eq-eqb (rows_offset e) 18 made_rows_offset,
        eq-eqb (literals_offset e) (literals_at e) (made_literals_offset ∙ sym made_literals_at),
        eq-eqb (pairs_offset e) (pairs_at e) (made_pairs_offset ∙ sym made_pairs_at),
        eq-eqb (whole_length e) (end_of e) (made_whole ∙ sym made_end),
        eq-eqb (whole_length e) (length e) end,
      )
