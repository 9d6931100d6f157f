-- `fill` stores the four parts, one after the other. Assumes nothing.
use Rattle.std.proofs.Common.{◌∙◌, ap, List, ℕ}
use lib.Seq.{sets}
use Rattle.writer.specs.Given.{given}
use Rattle.writer.specs.Content.{two_bytes, header}
use Rattle.writer.proofs.Bytes.{parts_page}
use Rattle.writer.proofs.InRange.fill.Goals as goal

pub returns : goal.returns
unfolding header
returns c =
    let a = c.args in
    parts_page (given a.self.now.content) a.out.now _ _ _ _ c.requires (c.put_header.ensures ∙ ap (λ (l : List ℕ). sets a.out.now 0 (two_bytes l)) c.numbers.ensures) c.put_rows.ensures c.put.ensures c.put-2.ensures
