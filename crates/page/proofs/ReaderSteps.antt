-- What a row reader says from its opening on. On an accepted page R steps give rows 0 to R - 1 in order, and every later step says that there is
-- none; on a refused page every step says so. Because there is a row n exactly where the page is accepted and n is below R, and a step goes on
-- where there is one and stays where there is none. Then what an answer tells of the row in it. Assumes nothing.
use Rattle.std.specs.Prelude.{Option, Some, None}
use mathlib.Core.Path.{◌≡◌, refl, sym, ap, ◌∙◌}
use mathlib.Core.Bool.{Bool, true, false, cond, true≢false, false≢true}
use mathlib.Core.List.{List, ◌∷◌, ◌++◌, map}
use Prim.Native.Nat.{ℕ, zero, suc, ◌+◌, ◌≤◌, ◌<◌}
use native.Mathlib.Omega.{arith}
use native.Mathlib.Nat.{add-zero, zero-add, suc-add}
use native.Mathlib.Numerals.{add-one}
use lib.Dec.{ltb, eqb}
use lib.ListN.{replicate}
use borrow.Author.Tests.{ltb-true, lt-ltb, le-ltb, ne_eqb}
use Rattle.atoms.proofs.Truth.{and_r, yes_true, true_yes}
use Rattle.lpod.specs.Lists.{numbers, below}
use Rattle.page.specs.Fields.{word_at, row_count}
use Rattle.page.specs.Refusals.{page_no}
use Rattle.page.specs.Program.{literal_place}
use Rattle.page.specs.Rows.{row_from}
use Rattle.page.specs.declared.rows.Row as Rows
use Rattle.page.specs.Reader.{Said, nothing, said, has_row, row_there, row_said, number_after, steps_say}
use Rattle.page.proofs.RowSteps.{Bytes}

-- a row's number is below R, so it is below 65535
pub row_below : (page : List ℕ) → Bytes page → (n : ℕ) → has_row page n ≡ true → n < 65535
unfolding has_row word_at
row_below page bytes n e =
    let t = and_r (eqb (page_no page) 0) (ltb n (row_count page)) (true_yes e) in
    omega (arith, bytes 4, bytes 5, ltb-true n (row_count page) (yes_true (ltb n (row_count page)) t))

-- ---- where there is no row a reader says so and stays
stays : (page : List ℕ) (n : ℕ) → has_row page n ≡ false → (k : ℕ) → steps_say page n k ≡ replicate k nothing
unfolding steps_say row_said number_after
stays page n e zero = refl
stays page n e (suc k) = rw e (ap (λ (l : List Said). nothing ∷ l) (stays page n e k))

-- ---- where there is one it says it and goes on
goes_on : (page : List ℕ) → ((n : ℕ) → n < row_count page → has_row page n ≡ true) → (n m k : ℕ) → n + m ≡ row_count page
    → steps_say page n (m + k) ≡ map (row_there page) (numbers n m) ++ steps_say page (row_count page) k
unfolding steps_say row_said number_after numbers
goes_on page h n zero k e = ap (λ (r : ℕ). steps_say page r (0 + k)) (sym (add-zero n) ∙ e) ∙ ap (steps_say page (row_count page)) (zero-add k)
goes_on page h n (suc m) k e =
    rw (suc-add m k, h n (omega arith), add-one n) (ap (λ (l : List Said). row_there page n ∷ l) (goes_on page h (suc n) m k (omega arith)))

-- ---- where there is a row
module _ (page : List ℕ) (n : ℕ) where
  row_in_lem : page_no page ≡ 0 → n < row_count page → has_row page n ≡ true
  unfolding has_row
  row_in_lem e h = rw (e, lt-ltb n (row_count page) h)

  row_out : page_no page ≡ 0 → row_count page ≤ n → has_row page n ≡ false
  unfolding has_row
  row_out e h = rw (e, le-ltb n (row_count page) h)

  row_refused : (page_no page ≡ 0 → ⊥) → has_row page n ≡ false
  unfolding has_row
  row_refused h = rw (ne_eqb (page_no page) 0 h)

-- ---- from an opening, which puts a reader at number 0
pub rows_in_order : (page : List ℕ) → page_no page ≡ 0 → (k : ℕ)
    → steps_say page 0 (row_count page + k) ≡ map (row_there page) (below (row_count page)) ++ replicate k nothing
rows_in_order page e k =
    goes_on page (λ n h. row_in_lem page n e h) 0 (row_count page) k (zero-add (row_count page))
    ∙ ap (λ (l : List Said). map (row_there page) (below (row_count page)) ++ l) (stays page (row_count page) (row_out page (row_count page) e (omega arith)) k)

pub refused_is_past : (page : List ℕ) → (page_no page ≡ 0 → ⊥) → (n k : ℕ) → steps_say page n k ≡ replicate k nothing
refused_is_past page h n k = stays page n (row_refused page n h) k

-- ---- by an answer
abbrev row_in : Said → Rows.Row
row_in s = record { head = s.head; pos = s.pos; neg = s.neg; place = s.place }

row_of : (page : List ℕ) (n : ℕ) (row : Rows.Row) (b : Bool) → said (Some row) ≡ cond b (row_there page n) nothing
    → (b ≡ true) × (row ≡ row_from page n (literal_place page n))
unfolding said row_there row_from
row_of page n row true e = (refl, ap row_in e)
row_of page n row false e = absurd (true≢false (ap (λ (s : Said). s.more) e))

-- an answer with a row: there is a row n, and it is that row
pub read_row : (page : List ℕ) (n : ℕ) (row : Rows.Row) → said (Some row) ≡ row_said page n
    → (has_row page n ≡ true) × (row ≡ row_from page n (literal_place page n))
unfolding row_said
read_row page n row e = row_of page n row (has_row page n) e

past_of : (page : List ℕ) (n : ℕ) (b : Bool) → said None ≡ cond b (row_there page n) nothing → b ≡ false
unfolding said row_there
past_of page n true e = absurd (false≢true (ap (λ (s : Said). s.more) e))
past_of page n false e = refl

-- an answer without one: there is no row n
pub read_past : (page : List ℕ) (n : ℕ) → said None ≡ row_said page n → has_row page n ≡ false
unfolding row_said
read_past page n e = past_of page n (has_row page n) e

-- what is said settles the answer
pub one_answer : (a b : Option Rows.Row) → said a ≡ said b → a ≡ b
unfolding said
one_answer (Some r) (Some q) e = ap Some (ap row_in e)
one_answer (Some r) None e = absurd (true≢false (ap (λ (s : Said). s.more) e))
one_answer None (Some q) e = absurd (false≢true (ap (λ (s : Said). s.more) e))
one_answer None None e = refl

-- ---- a step of a reader: on where it gives a row, and else it stays
module _ (page : List ℕ) (n : ℕ) where
  pub row_before : has_row page n ≡ true → n < row_count page
  unfolding has_row
  row_before e = ltb-true n (row_count page) (yes_true (ltb n (row_count page)) (and_r (eqb (page_no page) 0) (ltb n (row_count page)) (true_yes e)))

  pub step_on : has_row page n ≡ true → n + 1 ≡ number_after page n
  unfolding number_after
  step_on e = rw e

  pub step_stays : has_row page n ≡ false → n ≡ number_after page n
  unfolding number_after
  step_stays e = rw e
