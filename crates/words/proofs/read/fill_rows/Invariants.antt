-- `read::fill_rows` stores one row after the other. What is kept: the row in hand stands at `place`, and the words stored, with those of the rows
-- to come, are all of them; the words after these are as they were. That the array has 32 words is known where it is lent as a slice. Assumes nothing.
use mathlib.Core.Path.{◌≡◌}
use mathlib.Core.List.{◌++◌, map}
use Prim.Native.Nat.{◌-◌}
use lib.ListN.{length, take, drop}
use Rattle.page.specs.Program.{rows_from, literal_place}
use Rattle.words.specs.Coded.{row_word, row_words}
use Rattle.words.proofs.read.fill_rows.Given as goal

abbrev pub invariant-loop-r : goal.invariant-loop-r
invariant-loop-r l =
    (l.place ≡ literal_place l.page l.r) × (length l.out ≡ 32) × (take l.r l.out ++ map row_word (rows_from l.page l.r l.place (l.total - l.r)) ≡ row_words l.page)
    × (drop l.r l.out ≡ drop l.r l.initial.out)
