-- The rows of a page, taken one at a time as code takes them: what the row in hand is, where the next one stands, and that places stay so small
-- that none goes round at 32 bits. A pass over the rows keeps `i ≡ literal_place page n` and cites these laws: it sees no offset. Assumes nothing.
use mathlib.Core.Path.{◌≡◌, refl, ap, ◌∙◌}
use mathlib.Core.List.{List, [], ◌∷◌, map}
use Prim.Native.Nat.{ℕ, zero, suc, ◌+◌, ◌*◌, ◌-◌, ◌≤◌, ◌<◌}
use native.Mathlib.Omega.{arith}
use native.Mathlib.Numerals.{add-one}
use mir.Syntax.{w8}
use mir.Val.{Fits}
use Rattle.lpod.specs.Lists.{numbers}
use Rattle.lpod.specs.Rule.{Rule}
use Rattle.page.specs.Fields.{byte_at, word_at, literals_at, rows_at, head_count, pos_count, neg_count, literals_of}
use Rattle.page.specs.Program.{rule_at, rows_from, literal_place}
use Rattle.page.specs.Rows.{row_from, rule_of, place_after}
use Rattle.page.specs.declared.rows.Row.{Row}
use Rattle.page.proofs.Scan.{rows_step, rows_none, place_next}

-- the row that code reads is the rule that the page has there
pub rule_from : (page : List ℕ) (n i : ℕ) (row : Row) → row ≡ row_from page n i → rule_of page row ≡ rule_at page n i
unfolding rule_of row_from rule_at
rule_from page n i row e = ap (rule_of page) e

-- what a lent slice knows of itself: its elements are bytes
abbrev pub Bytes : List ℕ → Type 0
Bytes page = (i : ℕ) → Fits w8 (byte_at page i)

-- so places stay small
pub place_small : (page : List ℕ) → Bytes page → (n : ℕ) → literal_place page n ≤ 18 + 4 * 65535 + 765 * n
unfolding literal_place literals_at rows_at word_at literals_of head_count pos_count neg_count
place_small page bytes zero = omega (arith, bytes 4, bytes 5)
place_small page bytes (suc n) =
    omega (arith, place_small page bytes n, bytes (18 + 4 * n), bytes (18 + 4 * n + 1), bytes (18 + 4 * n + 2))

pub at_first : (page : List ℕ) (i : ℕ) → i ≡ literals_at page → i ≡ literal_place page 0
unfolding literal_place
at_first page i e = e

-- the row in hand is row n, and its first literal stands at i
module _ (page : List ℕ) (bytes : Bytes page) (n i : ℕ) (row : Row) (l : n < 65536) (at : i ≡ literal_place page n) (e : row ≡ row_from page n i) where
  pub after_row : place_after row ≡ i + literals_of page n
  unfolding place_after row_from literals_of literal_place
  after_row =
      let j : row.place + row.head + row.pos + row.neg ≡ i + head_count page n + pos_count page n + neg_count page n = rw e in
      omega (arith, place_small page bytes (suc n))

  pub at_next : (i' : ℕ) → i' ≡ place_after row → i' ≡ literal_place page (n + 1)
  at_next i' e' = e' ∙ after_row ∙ rw (at, place_next page n)

  -- the rows from row n on: the row in hand, and those from the next one on
  pub rest_step : (rows i' : ℕ) → n < rows → i' ≡ place_after row
      → rows_from page n i (rows - n) ≡ rule_of page row ∷ rows_from page (n + 1) i' (rows - (n + 1))
  rest_step rows i' h e' =
      rows_step page i (rows - n) (rows - (n + 1)) (omega arith) n (literals_of page n) refl ∙ rw (← rule_from page n i row e, e', after_row)

pub rest_none : (page : List ℕ) (n i rows : ℕ) → rows ≤ n → rows_from page n i (rows - n) ≡ []
rest_none page n i rows h = rows_none page i (rows - n) (omega arith) n

-- ---- by the row's number alone
-- the rows from row r on are those with the numbers from r on, each at its own place
pub rows_numbered : (page : List ℕ) (r n : ℕ) → rows_from page r (literal_place page r) n ≡ map (λ k. rule_at page k (literal_place page k)) (numbers r n)
unfolding rows_from numbers literal_place
rows_numbered page r zero = refl
rows_numbered page r (suc n) = ap (λ (P : List Rule). rule_at page r (literal_place page r) ∷ P) (rw (add-one r) (rows_numbered page (suc r) n))
