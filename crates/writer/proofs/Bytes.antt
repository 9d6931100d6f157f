-- The bytes of a page that is made, as code stores them, part after part: two for each number of the header, four for each row, and the lists as they
-- are. By induction on the lists. Assumes nothing.
use mathlib.Core.Path.{◌≡◌, refl, sym, ap, ◌∙◌}
use mathlib.Core.List.{List, [], ◌∷◌, ◌++◌, append_assoc}
use Prim.Native.Nat.{ℕ, zero, suc, ◌+◌, ◌*◌, ◌/◌, ◌%◌, ◌≤◌, ◌<◌}
use native.Mathlib.Nat.{add-zero, add-suc, suc-add}
use native.Mathlib.Numerals.{add-one}
use native.Mathlib.Omega.{arith}
use lib.ListN.{length, set, take, drop, get_or, length-append}
use lib.Seq.{sets, sets-eq, length-sets, drop-cons}
use borrow.Rule.Slice.PartMut.{post_of}
use Rattle.std.proofs.lemmas.List.{drop-drop}
use Rattle.std.specs.Simd.{first_chunks}
use Rattle.lanes.specs.Entries.{over}
use Rattle.lanes.proofs.Stored.{over_sets}
use Rattle.writer.specs.Content.{Content, row_total, header_fields, two_bytes, four_bytes, header, parts, encode}

-- ---- how long the parts are
pub length_fields : (atoms rows literals pairs : ℕ) → length (two_bytes (header_fields atoms rows literals pairs)) ≡ 18
unfolding header_fields two_bytes
length_fields atoms rows literals pairs = refl

pub length_header : (c : Content) → length (header c) ≡ 18
unfolding header
length_header c = length_fields _ _ _ _

pub length_rows : (l : List ℕ) → length (four_bytes l) ≡ 4 * (length l / 3)
unfolding four_bytes
length_rows [] = refl
length_rows (a ∷ []) = refl
length_rows (a ∷ b ∷ []) = refl
length_rows (a ∷ b ∷ c ∷ l) = omega (arith, length_rows l)

pub length_page : (c : Content) → length (encode c) ≡ 18 + 4 * row_total c + length c.literals + length c.pairs
unfolding encode
length_page c =
    omega (
      arith,
      length-append (header c) (parts c),
      length-append (four_bytes c.rows) (c.literals ++ c.pairs),
      length-append c.literals c.pairs,
      length_header c,
      length_rows c.rows,
    )

-- ---- a part copied into its place
pub copied : (out part : List ℕ) (at n : ℕ) → n ≡ length part → at + length part ≤ length out → take at out ++ (part ++ post_of at n out) ≡ sets out at part
copied out part at n e room = rw (e, drop-drop (length part) at out) (sym (sets-eq part out at room ∙ append_assoc (take at out) part (drop (at + length part) out)))

-- one part after the other
pub sets_append : (a b out : List ℕ) (at : ℕ) → sets out at (a ++ b) ≡ sets (sets out at a) (at + length a) b
sets_append [] b out at = rw add-zero
sets_append (x ∷ a) b out at = sets_append a b (set out at x) (suc at) ∙ rw (suc-add, add-suc)

pub sets_keep : (at : ℕ) (vs after out : List ℕ) → after ≡ sets out at vs → length after ≡ length out
sets_keep at vs after out e = ap length e ∙ length-sets out at vs

-- ---- parts stored one after the other: all of them from place `at` on make what is left now, from `here` on
pub record Left (all : List ℕ) (at : ℕ) (out₀ out : List ℕ) (here : ℕ) (rest : List ℕ) : Type 0 where
  pub same : length out ≡ length out₀
  pub left : sets out₀ at all ≡ sets out here rest

pub left_all : (all out : List ℕ) (at : ℕ) → Left all at out out at all
left_all all out at = record { same = refl; left = refl }

module _ {all out₀ out rest : List ℕ} {at here : ℕ} (s : Left all at out₀ out here rest) where
  pub left_more : (part later : List ℕ) → rest ≡ part ++ later → (out' : List ℕ) → out' ≡ sets out here part → (there : ℕ) → there ≡ here + length part
      → Left all at out₀ out' there later
  left_more part later e out' eo there et = record {
    same = sets_keep here part out' out eo ∙ s.same;
    left = s.left ∙ rw (e, eo, et) (sets_append part later out here);
  }

  pub left_none : rest ≡ [] → out ≡ sets out₀ at all
  left_none e = sym (s.left ∙ rw e)

-- the numbers of the header that are left from number i on
pub two_more : (l : List ℕ) (i : ℕ) → i < length l → two_bytes (drop i l) ≡ (get_or l i 0 % 256 ∷ get_or l i 0 / 256 ∷ []) ++ two_bytes (drop (i + 1) l)
unfolding two_bytes
two_more l i h = rw (drop-cons l i 0 h, add-one)

-- two bytes, as they are taken from a number of 16 bits
pub two_taken : (n : ℕ) → n < 65536 → n % 256 ∷ n / 256 % 256 ∷ [] ≡ n % 256 ∷ n / 256 ∷ []
two_taken n h = let e : n / 256 % 256 ≡ n / 256 = omega arith in rw e

-- rows of three counts, each with a zero after it
unfoldable pub padded : List (List ℕ) → List ℕ
padded [] = []
padded (row ∷ rows) = get_or row 0 0 ∷ get_or row 1 0 ∷ get_or row 2 0 ∷ 0 ∷ padded rows

pub padded_rows : (l : List ℕ) (n : ℕ) → n ≡ length l / 3 → padded (first_chunks 3 n l) ≡ four_bytes l
unfolding padded four_bytes
padded_rows [] zero e = refl
padded_rows [] (suc n) e = absurd (omega arith)
padded_rows (a ∷ []) zero e = refl
padded_rows (a ∷ []) (suc n) e = absurd (omega arith)
padded_rows (a ∷ b ∷ []) zero e = refl
padded_rows (a ∷ b ∷ []) (suc n) e = absurd (omega arith)
padded_rows (a ∷ b ∷ c ∷ l) zero e = absurd (omega arith)
padded_rows (a ∷ b ∷ c ∷ l) (suc n) e = rw (padded_rows l n (omega arith))

pub padded_more : (rows : List (List ℕ)) (i : ℕ) → i < length rows
    → let row = get_or rows i [] in padded (drop i rows) ≡ (get_or row 0 0 ∷ get_or row 1 0 ∷ get_or row 2 0 ∷ 0 ∷ []) ++ padded (drop (i + 1) rows)
unfolding padded
padded_more rows i h = rw (drop-cons rows i [] h, add-one)

-- the four parts are the page
pub parts_page : (c : Content) (out a b d e : List ℕ) → length (encode c) ≤ length out → a ≡ sets out 0 (header c) → b ≡ sets a 18 (four_bytes c.rows)
    → d ≡ sets b (18 + 4 * row_total c) c.literals → e ≡ sets d (18 + 4 * row_total c + length c.literals) c.pairs → e ≡ over (encode c) out
unfolding encode
parts_page c out a b d e room ea eb ed ee =
    let tail = c.literals ++ c.pairs in
    let one : sets out 0 (header c ++ (four_bytes c.rows ++ tail)) ≡ sets a 18 (four_bytes c.rows ++ tail)
    = sets_append (header c) (four_bytes c.rows ++ tail) out 0 ∙ rw (length_header c, ← ea) in
    let two : sets a 18 (four_bytes c.rows ++ tail) ≡ sets b (18 + 4 * row_total c) tail
    = sets_append (four_bytes c.rows) tail a 18 ∙ rw (length_rows c.rows, ← eb) in
    let three : sets b (18 + 4 * row_total c) tail ≡ sets d (18 + 4 * row_total c + length c.literals) c.pairs
    = sets_append c.literals c.pairs b (18 + 4 * row_total c) ∙ rw (← ed) in
    ee ∙ sym (one ∙ two ∙ three) ∙ over_sets (encode c) out room
