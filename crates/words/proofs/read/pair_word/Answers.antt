-- `read::pair_word`: two bytes, the first one lower. Assumes nothing.
use native.Mathlib.Omega.{arith}
use Rattle.page.specs.Fields.{word_at}
use Rattle.words.proofs.read.pair_word.Goals as goal

pub returns : goal.returns
unfolding word_at
returns c = grind arith
