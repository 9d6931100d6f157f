-- What is kept: the row in hand stands at `place`, and the words so far, with those of the rows to come, are all of them.
use Rattle.std.proofs.Common.{◌≡◌, ◌-◌, ◌++◌, length, map}
use Rattle.page.specs.Program.{rows_from, literal_place}
use Rattle.words.specs.Coded.{row_word, row_words}
use Rattle.words.proofs.read.put_rows.Given as goal

abbrev pub invariant-loop-n : goal.invariant-loop-n
invariant-loop-n l = record {
  at_row : l.place ≡ literal_place l.page l.n;
  many : length l.words.items ≡ l.n;
  filled : l.words.items ++ map row_word (rows_from l.page l.n l.place (l.total - l.n)) ≡ row_words l.page;
}
