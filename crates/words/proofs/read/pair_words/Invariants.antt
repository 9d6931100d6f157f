-- What is kept: the words so far, with those of the pairs to come, are all of them.
use Rattle.std.proofs.Common.{◌≡◌, ◌+◌, ◌*◌, ◌-◌, ◌++◌, length, map}
use Rattle.page.specs.Program.{pairs_from}
use Rattle.words.specs.Coded.{pair_word, pair_words}
use Rattle.words.proofs.read.pair_words.Given as goal

abbrev pub invariant-loop-n : goal.invariant-loop-n
invariant-loop-n l = record {
  many : length l.words.items ≡ l.n;
  filled : l.words.items ++ map pair_word (pairs_from l.page (l.from + 2 * l.n) (l.n-end - l.n)) ≡ pair_words l.page;
}
