-- `capi::pipeotter_here_there_test` is the test's number and its yes or no as one word. Assumes nothing.
use Rattle.std.proofs.Common.{rules, refl, ◌∙◌}
use Rattle.std.specs.Prelude.{false}
use Rattle.capi.specs.Words.{here_there_word, bit}
use Rattle.capi.proofs.Mapped.{word_mapped}
use Rattle.capi.proofs.pipeotter_here_there_test.Goals as goal

pub returns : goal.returns
unfolding here_there_word bit
returns c = c.word.ensures ∙ word_mapped false bit refl c.here_there_test.result c.map.result (λ a h. search rules) (λ e h. search rules) _ c.here_there_test.ensures
