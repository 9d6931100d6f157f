-- `put_header` stores number after number. Assumes nothing.
use Rattle.std.proofs.Common.{◌∙◌, ◌*◌, ◌%◌, ◌/◌, [], ◌∷◌, get_or, refl, ap, arith, rules}
use lib.ListN.{drop_of_length-le}
use lib.Seq.{sets}
use Rattle.writer.specs.Content.{two_bytes}
use Rattle.writer.proofs.Bytes.{left_more, left_none, two_more, two_taken}
use Rattle.writer.proofs.put_header.Goals as goal

pub loop-i-preserved : goal.loop-i-preserved
loop-i-preserved c =
    let h = c.loop-i in
    let n = get_or c.args.numbers h.i 0 in
    let e = c.to_le_bytes.ensures ∙ two_taken n (search rules) in
    left_more h.invariant (n % 256 ∷ n / 256 ∷ []) _ (two_more c.args.numbers h.i (search rules)) _ (c.put.ensures ∙ rw e refl) _ (omega arith)

pub returns : goal.returns
unfolding two_bytes
returns c = left_none c.loop-i.invariant (ap two_bytes (drop_of_length-le c.args.numbers (search rules)))
