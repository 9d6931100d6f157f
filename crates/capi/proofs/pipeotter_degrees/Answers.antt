-- `capi::pipeotter_degrees` is the number and the count of degrees as one word. Assumes nothing.
use mathlib.Core.Path.{◌∙◌, ap}
use Prim.Native.Nat.{ℕ}
use Rattle.page.specs.Answers.{Answered}
use Rattle.capi.specs.Words.{word, degrees_word}
use Rattle.capi.proofs.pipeotter_degrees.Goals as goal

pub returns : goal.returns
unfolding degrees_word
returns c = (c.word.ensures ∙ ap (λ (x : Answered ℕ). word x.no x.value) c.degrees.ensures.0, c.degrees.ensures.1)
