-- `rows_seen` answers what `bad_counts` and `unsorted` of the definitions say. What was seen of the rows passed, and the rows that are left,
-- decide together what all rows decide; `place` is where the next row's literals start, so in the end where the last row's literals stop.
-- The measure is how many rows are left. Assumes nothing.
use Prim.Native.Nat.{◌-◌, ◌≤◌}
use mathlib.Core.Path.{◌≡◌}
use mathlib.Core.Bool.{◌&&◌}
use Rattle.lpod.specs.Lists.{every, below, numbers}
use Rattle.page.specs.Fields.{row_count}
use Rattle.page.specs.Program.{rows_from, rows_of, literal_place}
use Rattle.page.specs.Refusals.{row_fits, bodies_rise}
use Rattle.page.proofs.accept.content.rows_seen.Given as goal

abbrev pub invariant-loop-r : goal.invariant-loop-r
invariant-loop-r l =
    (l.r ≤ l.total) × (l.place ≡ literal_place l.page l.r)
    × (every (row_fits l.page) (below (row_count l.page)) ≡ (l.fit && every (row_fits l.page) (numbers l.r (l.total - l.r))))
    × (every bodies_rise (rows_of l.page) ≡ (l.rise && every bodies_rise (rows_from l.page l.r l.place (l.total - l.r))))
