-- `capi::pipeotter_write` is the number and the length of the page as one word. Assumes nothing.
use mathlib.Core.Path.{◌∙◌, ap}
use Prim.Native.Nat.{ℕ}
use Rattle.page.specs.Answers.{Answered}
use Rattle.capi.specs.Words.{word, write_word}
use Rattle.capi.proofs.pipeotter_write.Goals as goal

pub returns : goal.returns
unfolding write_word
returns c = (c.word.ensures ∙ ap (λ (x : Answered ℕ). word x.no x.value) c.write.ensures.0, c.write.ensures.1)
