-- What the writer gives, refused or accepted. The conditions on rows, literals and pairs are those of reading, asked of the page that would be made.
use Rattle.std.specs.Prelude.{◌≡◌, Bool, ◌&&◌, ◌||◌, not, List, [], ◌∷◌, ◌++◌, ℕ, ◌%◌, eqb, ltb, length, Result}
use Rattle.page.specs.Refusals as lists
use Rattle.page.specs.Refusals.{refuse, first_that, counts_out, part_refusals}
use Rattle.page.specs.Answers.{Answered, answered, by_number}
use Rattle.page.specs.declared.refusal.Refusal.{Refusal}
use Rattle.lanes.specs.Entries.{stored}
use Rattle.writer.specs.Content.{Content, row_total, pair_total, encode}

-- 3: no whole number of rows or of pairs; atoms, rows, literals or pairs outside their range
unfoldable pub ragged : Content → Bool
ragged c = not (eqb (length c.rows % 3) 0 && eqb (length c.pairs % 2) 0)

unfoldable pub sizes_out : Content → Bool
sizes_out c = ragged c || counts_out c.atoms (row_total c) (length c.literals) (pair_total c)

-- 3, then 5 to 8 as the page has them
unfoldable pub content_refusals : Content → List lists.Refusal
content_refusals c = refuse 3 (sizes_out c) ∷ part_refusals (encode c)

unfoldable pub content_no : Content → ℕ
content_no c = first_that (content_refusals c)

-- 11: the lent slice is shorter than the page
abbrev pub room_refusals : Content → ℕ → List lists.Refusal
room_refusals c room = refuse 11 (ltb room (length (encode c))) ∷ []

unfoldable pub write_refusals : Content → ℕ → List lists.Refusal
write_refusals c room = content_refusals c ++ room_refusals c room

unfoldable pub write_no : Content → ℕ → ℕ
write_no c room = first_that (write_refusals c room)

-- with number n: the length of the page; where n refuses, 0
abbrev pub Written : Type 0
Written = Answered ℕ

abbrev pub written : ℕ → Content → Written
written n c = by_number 0 n (length (encode c))

-- the answer r of a call with this content and this slice, and the slice afterwards
abbrev pub WriteSays : Content → List ℕ → Result ℕ Refusal → List ℕ → Type 0
WriteSays c out r after = (answered 0 r ≡ written (write_no c (length out)) c) × (after ≡ stored (write_no c (length out)) (encode c) out)
