-- `row::head_count` reads the number of head atoms off the word. Assumes nothing.
use mathlib.Core.Path.{sym}
use Rattle.words.specs.Coded.{rule_in, head_length}
use Rattle.words.proofs.Places.{digits_length}
use Rattle.words.proofs.row.head_count.Goals as goal

pub returns : goal.returns
unfolding rule_in head_length
returns c = sym (digits_length _ _)
