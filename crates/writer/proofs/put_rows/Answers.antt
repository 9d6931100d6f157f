-- `put_rows` stores row after row. Assumes nothing.
use Rattle.std.proofs.Common.{[], ◌∷◌, get_or, ap, arith, refl, rules}
use lib.ListN.{drop_of_length-le}
use Rattle.writer.proofs.Bytes.{padded, left_all, left_more, left_none, padded_rows, padded_more}
use Rattle.writer.proofs.put_rows.Goals as goal

pub loop-i-init : goal.loop-i-init
loop-i-init c = rw (c.as_chunks.ensures.front, padded_rows c.args.rows.now _ refl) (left_all _ _ _)

pub loop-i-preserved : goal.loop-i-preserved
loop-i-preserved c =
    let h = c.loop-i in
    let row = get_or c.as_chunks.result.0.now h.i [] in
    left_more h.invariant (get_or row 0 0 ∷ get_or row 1 0 ∷ get_or row 2 0 ∷ 0 ∷ []) _ (padded_more c.as_chunks.result.0.now h.i (search rules)) _ c.put.ensures _ (omega arith)

pub returns : goal.returns
unfolding padded
returns c = left_none c.loop-i.invariant (ap padded (drop_of_length-le c.as_chunks.result.0.now c.loop-i-test.false))
