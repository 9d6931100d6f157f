-- What a row reader says. Where the page is refused there is no row; where it is accepted, those below R.
use Rattle.std.specs.Prelude.{Bool, true, false, ◌&&◌, cond, List, [], ◌∷◌, ℕ, zero, suc, ◌+◌, ltb, eqb, Option, Some, None}
use Rattle.page.specs.Fields.{row_count, head_count, pos_count, neg_count}
use Rattle.page.specs.Program.{literal_place}
use Rattle.page.specs.Refusals.{page_no}
use Rattle.page.specs.declared.rows.Row.{Row}

-- what is said of a row number: that there is a row, its three counts and the place of its first literal byte; or that there is none
pub record Said : Type 0 where
  pub more : Bool
  pub head : ℕ
  pub pos : ℕ
  pub neg : ℕ
  pub place : ℕ

abbrev pub nothing : Said
nothing = record { more = false; head = 0; pos = 0; neg = 0; place = 0 }

-- each case of an answer says this
unfoldable pub said : Option Row → Said
said (Some r) = record { more = true; head = r.head; pos = r.pos; neg = r.neg; place = r.place }
said None = nothing

-- there is a row n
unfoldable pub has_row : List ℕ → ℕ → Bool
has_row page n = eqb (page_no page) 0 && ltb n (row_count page)

-- what has to be said of row n: its counts and its place, where there is such a row
unfoldable pub row_there : List ℕ → ℕ → Said
row_there page n = record { more = true; head = head_count page n; pos = pos_count page n; neg = neg_count page n; place = literal_place page n }

unfoldable pub row_said : List ℕ → ℕ → Said
row_said page n = cond (has_row page n) (row_there page n) nothing

-- the next number where there is a row n; past the last row a reader stays
unfoldable pub number_after : List ℕ → ℕ → ℕ
number_after page n = cond (has_row page n) (n + 1) n

-- what a reader at number n says in k steps, one after the other
unfoldable pub steps_say : List ℕ → ℕ → ℕ → List Said
steps_say page n zero = []
steps_say page n (suc k) = row_said page n ∷ steps_say page (number_after page n) k
