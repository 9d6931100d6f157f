-- `read::row_word`: the two bodies as sets, the number of head atoms and the head in 24 bits, each in its own part of the word. Assumes nothing.
use Rattle.page.specs.Rows.{rule_of}
use Rattle.page.proofs.Places.{length_literals}
use Rattle.words.specs.Coded.{row_word}
use Rattle.words.proofs.read.row_word.Goals as goal

pub returns : goal.returns
unfolding row_word rule_of
returns c =
    let a = c.args in
    cc (length_literals a.page.now a.row.place a.row.head)
