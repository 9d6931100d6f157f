-- `capi::pipeotter_pick` is the pick's number and set as one word. Assumes nothing.
use mathlib.Core.Path.{◌∙◌, ap}
use Prim.Native.Nat.{ℕ}
use Rattle.page.specs.Answers.{Answered}
use Rattle.capi.specs.Words.{word, pick_word}
use Rattle.capi.proofs.pipeotter_pick.Goals as goal

pub returns : goal.returns
unfolding pick_word
returns c = c.word.ensures ∙ ap (λ (x : Answered ℕ). word x.no x.value) c.pick.ensures
