-- `capi::pipeotter_rounds` is the number and the count of rounds as one word; the count fits 16 bits. Assumes nothing.
use Rattle.std.specs.Prelude.{Result}
use mathlib.Core.Path.{◌∙◌, ap}
use Prim.Native.Nat.{ℕ}
use native.Mathlib.Omega.{arith}
use lib.Count.{ones-le}
use Rattle.routes.proofs.CountedRounds.{rounds_atoms}
use Rattle.page.specs.Answers.{Answered, answered}
use Rattle.page.specs.declared.refusal.Refusal.{Refusal}
use Rattle.capi.specs.Words.{word, rounds_word}
use Rattle.capi.proofs.pipeotter_rounds.Goals as goal

pub counted-requires : goal.counted-requires
counted-requires c = omega (arith, rounds_atoms _ _ c.args.set _ c.rounds.ensures, ones-le 16 c.args.set c.ranges.set.fits)

pub returns : goal.returns
unfolding rounds_word
returns c = c.word.ensures ∙ ap (λ (r : Result ℕ Refusal). word (answered 0 r).no (answered 0 r).value) c.counted.ensures ∙ ap (λ (x : Answered ℕ). word x.no x.value) c.rounds.ensures
