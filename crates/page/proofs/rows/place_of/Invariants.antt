-- `rows::place_of` goes from row to row, and keeps the place of the one in hand. Assumes nothing.
use mathlib.Core.Path.{◌≡◌}
use Prim.Native.Nat.{◌≤◌}
use Rattle.page.specs.Program.{literal_place}
use Rattle.page.proofs.rows.place_of.Given as goal

abbrev pub invariant-loop-r : goal.invariant-loop-r
invariant-loop-r l = (l.r ≤ l.n) × (l.place ≡ literal_place l.page l.r)
