-- `rank::grade` goes through the rows. What is kept: the degrees stored so far, with those of the rows that are left, are all of them. Assumes nothing.
use mathlib.Core.Path.{refl}
use Rattle.words.specs.Coded.{rules_in}
use Rattle.lanes.proofs.rank.grade.Goals as goal

pub loop-n-init : goal.loop-n-init
unfolding rules_in
loop-n-init c = (refl, refl)
