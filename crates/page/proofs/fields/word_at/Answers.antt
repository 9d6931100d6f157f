-- Two bytes, the low one first. Assumes nothing.
use native.Mathlib.Omega.{arith}
use Rattle.page.specs.Fields.{word_at}
use Rattle.page.proofs.fields.word_at.Goals as goal

pub returns : goal.returns
unfolding word_at
returns c = grind arith
