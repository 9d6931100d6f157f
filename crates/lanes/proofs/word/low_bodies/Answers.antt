-- `word::low_bodies` goes through the rows in block 0, whose sets are the numbers of the lanes. Assumes nothing.
use mathlib.Core.Path.{◌∙◌}
use native.Mathlib.Omega.{arith}
use lib.ListN.{length-set}
use Rattle.lanes.proofs.Bodies.{low_made, low_more}
use Rattle.lanes.proofs.word.low_bodies.Goals as goal

pub loop-n-preserved : goal.loop-n-preserved
loop-n-preserved c =
    let h = c.loop-n in
    let x = c.all_in-x in
    let y = c.none_in in
    record {
      long = length-set h.lows h.n y.result ∙ h.invariant.long;
      made = low_more c.args.rows.now h.lows h.n y.result (omega arith) h.invariant.made (low_made _ _ c.args.first.now.made x.result y.result x.ensures y.ensures);
    }
