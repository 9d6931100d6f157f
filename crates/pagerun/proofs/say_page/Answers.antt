-- `pagerun::say_page` hands on the sets that are stored. Assumes nothing.
use Rattle.std.proofs.Common.{length-take, arith}
use Rattle.std.specs.Prelude.{Ok}
use Rattle.engine.proofs.Given.{count_fits}
use Rattle.pagerun.proofs.say_page.Goals as goal

pub slice_bounds-sets-end : goal.slice_bounds-sets-end
slice_bounds-sets-end g c = count_fits _ _ _ _ (Ok c.in-Ok.many) c.in-Ok.ensures.0 c.in-Ok.ensures.1 c.list.auto.out

pub slice_bounds-say_answers-end : goal.slice_bounds-say_answers-end
slice_bounds-say_answers-end g c = simp length-take (omega (arith, count_fits _ _ _ _ (Ok c.in-Ok.many) c.in-Ok.ensures.0 c.in-Ok.ensures.1 c.list.auto.out))
