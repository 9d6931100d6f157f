-- `pagerun::say_answers` hands on the best sets that are stored. Assumes nothing.
use Rattle.std.proofs.Common.{length-take, arith}
use Rattle.std.specs.Prelude.{Ok}
use Rattle.engine.proofs.Given.{count_fits}
use Rattle.pagerun.proofs.say_answers.Goals as goal

pub slice_bounds-best-end-in-Ok : goal.slice_bounds-best-end-in-Ok
slice_bounds-best-end-in-Ok g c = count_fits _ _ _ _ (Ok c.in-Ok.many_best) c.in-Ok.ensures.0 c.in-Ok.ensures.1 c.best.auto.out

pub slice_bounds-say_sets-end : goal.slice_bounds-say_sets-end
slice_bounds-say_sets-end g c =
    simp length-take (omega (arith, count_fits _ _ _ _ (Ok c.in-Ok.many_best) c.in-Ok.ensures.0 c.in-Ok.ensures.1 c.best.auto.out))
