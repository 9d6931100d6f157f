-- `pair_in` asks for the first atom, and then for the other. Assumes nothing.
use native.Mathlib.Omega.{arith}
use Rattle.words.specs.Coded.{pair_in}
use Rattle.words.proofs.rows.pair_in.Goals as goal

pub returns-then-holds : goal.returns-then-holds
unfolding pair_in
returns-then-holds c = grind arith

pub returns-else-holds : goal.returns-else-holds
unfolding pair_in
returns-else-holds c = grind arith
