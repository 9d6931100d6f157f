-- What the calls on rows and pairs in words give: the answer sets or the best of them in lent memory, and the pick.
use Rattle.std.specs.Prelude.{◌≡◌, cond, List, ℕ, ◌+◌, ◌/◌, ◌<◌, T, ltb, length, take, Some, None}
use Rattle.std.specs.Prelude as rust
use Rattle.std.proofs.Math.Option.{Option, some, none}
use Rattle.atoms.specs.Atoms.{inside}
use Rattle.lpod.specs.Lists.{keep}
use Rattle.lpod.specs.Rule.{Program}
use Rattle.lpod.specs.Answer.{answer_sets}
use Rattle.lpod.specs.Best.{best_sets}
use Rattle.words.specs.Coded.{program_in}
use Rattle.lanes.specs.Entries as entries
use Rattle.lanes.specs.Seek.{all_from}
use Rattle.lanes.specs.Marks.{marked, Within}
use Rattle.lanes.specs.Rank.{over, ranks}
use Rattle.lanes.specs.Search.{sought_best}
use Rattle.lanes.specs.declared.sets.Which.{Which}
use Rattle.lanes.specs.declared.sets.Which.TheVariants.{All, Best}

-- a page has at most 32 rows: of more words the first 32 count
unfoldable pub program_of : List ℕ → List ℕ → ℕ → Program
program_of rows pairs flags = program_in (take 32 rows) pairs flags

-- all answer sets, or the best of them
unfoldable pub wanted : Which → Program → List ℕ
wanted All p = answer_sets p
wanted Best p = best_sets p

-- where the lent slice has room for all they stand at its start, else it is as it was
unfoldable pub left : List ℕ → List ℕ → List ℕ
left sets out = cond (ltb (length out) (length sets)) out (entries.over sets out)

-- this, and how many there are
abbrev pub FoundSays : List ℕ → List ℕ → ℕ → List ℕ → Type 0
FoundSays sets out r after = (r ≡ length sets) × (after ≡ left sets out)

-- the answer of the code, as the definitions have it
abbrev pub found : rust.Option ℕ → Option ℕ
found None = none
found (Some s) = some s

-- of the marked sets those that are wanted, where these rows rank them
abbrev pub kept : Which → List ℕ → List ℕ → List ℕ
kept All rows marks = all_from (marked marks) 0
kept Best rows marks = all_from (sought_best (over rows) marks) 0

-- ---- how the calls go: the answer sets of all rows are marked, in one word for each block up to top
pub record Marked (rows pairs : List ℕ) (flags top : ℕ) (marks : List ℕ) : Type 0 where
  pub long : length marks ≡ top / 64 + 1
  pub small : top < 65536
  pub start : T (inside (flags / 64) (top / 64))
  pub between : Within marks (flags / 64) (top / 64)
  pub all : all_from (marked marks) 0 ≡ answer_sets (program_in rows pairs flags)
  pub best : all_from (sought_best (over (keep ranks rows)) marks) 0 ≡ best_sets (program_in rows pairs flags)
