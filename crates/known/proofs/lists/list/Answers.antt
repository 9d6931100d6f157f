-- `known::lists::list` hands on the sets that are stored. Assumes nothing.
use Rattle.std.proofs.Common.{length-append, arith}
use Rattle.engine.proofs.Given.{count_fits}
use Rattle.known.proofs.lists.list.Goals as goal

pub say_listed-requires : goal.say_listed-requires
say_listed-requires g c =
    let listed = c.ask-listed in
    simp length-append (omega (arith, count_fits _ _ _ _ listed.result listed.ensures.0 listed.ensures.1 listed.auto.out))
