-- `capi::pipeotter_compare` is the comparison's number and side as one word. Assumes nothing.
use Rattle.std.proofs.Common.{rules, ◌∙◌}
use Rattle.capi.specs.Words.{compare_word}
use Rattle.capi.proofs.Mapped.{side_mapped}
use Rattle.capi.proofs.pipeotter_compare.Goals as goal

pub returns : goal.returns
unfolding compare_word
returns c = c.word.ensures ∙ side_mapped c.compare.result c.map.result (λ a h. search rules) (λ e h. search rules) _ c.compare.ensures
