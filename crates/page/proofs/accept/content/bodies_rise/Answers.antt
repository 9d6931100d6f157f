-- `bodies_rise` answers whether both bodies of a row rise: it takes where each starts and how long it is from the row, as the row's rule does.
-- Assumes nothing.
use Rattle.page.proofs.Scan.{bodies_spaced}
use Rattle.page.proofs.accept.content.bodies_rise.Goals as goal

pub returns : goal.returns
returns c =
    let a = c.args in
    cc (bodies_spaced a.page.now a.row)
