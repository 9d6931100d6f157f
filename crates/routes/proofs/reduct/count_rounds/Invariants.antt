-- What is kept: each round that was counted added something, and they have come to the set reached.
use Rattle.lpod.specs.Reduct.{reduct}
use Rattle.words.specs.Coded.{rules_with}
use Rattle.routes.proofs.Rounds.{Made}
use Rattle.routes.proofs.reduct.count_rounds.Given as goal

abbrev pub invariant-loop-count : goal.invariant-loop-count
invariant-loop-count l = Made (reduct (rules_with l.rows l.flags) l.set) l.count l.reached
