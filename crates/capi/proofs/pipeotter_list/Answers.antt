-- `capi::pipeotter_list` is the number and the count of the answer sets as one word; the count fits 16 bits. Assumes nothing.
use Rattle.std.specs.Prelude.{Result}
use mathlib.Core.Path.{◌∙◌, ap}
use Prim.Native.Nat.{ℕ}
use Rattle.capi.proofs.Few.{list_few}
use Rattle.page.specs.Answers.{Answered, answered}
use Rattle.page.specs.declared.refusal.Refusal.{Refusal}
use Rattle.capi.specs.Words.{word, sets_word}
use Rattle.capi.proofs.pipeotter_list.Goals as goal

pub counted-requires : goal.counted-requires
counted-requires c = list_few _ _ _ _ c.list.ensures.0

pub returns : goal.returns
unfolding sets_word
returns c = (c.word.ensures ∙ ap (λ (r : Result ℕ Refusal). word (answered 0 r).no (answered 0 r).value) c.counted.ensures ∙ ap (λ (x : Answered ℕ). word x.no x.value) c.list.ensures.0, c.list.ensures.1)
