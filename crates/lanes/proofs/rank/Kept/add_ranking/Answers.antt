-- `Kept::add_ranking` goes through the rows. What is kept: the rows kept so far, with those that rank among the rows left, are all that rank.
-- Assumes nothing.
use mathlib.Core.Path.{◌≡◌, refl, ◌∙◌}
use mathlib.Core.List.{append_assoc, append-nil}
use native.Mathlib.Omega.{arith}
use lib.ListN.{get_or}
use Rattle.words.specs.Coded.{head_length}
use Rattle.lanes.proofs.RankedRows.{word_heads, keep_on, keep_off, keep_none}
use Rattle.lanes.proofs.rank.Kept.add_ranking.Goals as goal
use Rattle.lanes.proofs.rank.Kept.add_ranking.Goals.{then-head_count-gt1, else-head_count-gt1}

pub loop-n-preserved : goal.loop-n-preserved
loop-n-preserved c =
    let h = c.loop-n in
    let rows = c.args.rules.rows.now in
    let k = c.head_count in
    let heads : k.result ≡ head_length (get_or rows h.n 0) = k.ensures ∙ word_heads (get_or rows h.n 0) _ refl in (
      elim c.if-head_count-gt1.branch [
        | then-head_count-gt1 w ↦ rw w.self-is (omega (arith, w.push.ensures.0, h.invariant.0))
        | else-head_count-gt1 w ↦ rw w.self-is (omega (arith, h.invariant.0))
      ],
      elim c.if-head_count-gt1.branch [
        | then-head_count-gt1 w ↦
            rw (w.self-is, w.push.ensures.1, append_assoc, ← keep_on rows h.n (omega arith) (omega (arith, w.if-head_count-gt1.true, heads))) h.invariant.1
        | else-head_count-gt1 w ↦
            rw (w.self-is, ← keep_off rows h.n (omega arith) (omega (arith, w.if-head_count-gt1.false, heads))) h.invariant.1
      ],
    )

pub returns : goal.returns
returns c =
    let h = c.loop-n in
    rw (keep_none c.args.rules.rows.now h.n (omega arith), append-nil) at h.invariant.1
