-- `capi::pipeotter_split_test` is the split test's number and count as one word. Assumes nothing.
use mathlib.Core.Path.{◌∙◌, ap}
use Rattle.routes.specs.Split.{Split}
use Rattle.capi.specs.Words.{word, split_word}
use Rattle.capi.proofs.pipeotter_split_test.Goals as goal

pub returns : goal.returns
unfolding split_word
returns c = c.word.ensures ∙ ap (λ (x : Split). word x.no x.count) c.split_test.ensures
