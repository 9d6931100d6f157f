-- `bad_pairs` answers what `bad_pairs` says: first members are every second byte, and the three demands may be tested in any order.
-- Assumes nothing.
use Rattle.lpod.specs.Lists.{every}
use Rattle.page.specs.Fields.{pairs_at, pair_count}
use Rattle.page.specs.Program.{pairs_of}
use Rattle.page.specs.Refusals.{bad_pairs, rises, firsts, in_order, all_apart}
use Rattle.page.specs.Scan.{pairs_hold}
use Rattle.page.proofs.Scan.{spaced_firsts, bad_pairs_lem}
use Rattle.page.proofs.accept.content.bad_pairs.Goals as goal

pub returns : goal.returns
unfolding bad_pairs pairs_of pairs_hold
returns c =
    let page = c.args.page.now in
    cc (
      spaced_firsts page (pairs_at page) (pair_count page),
      bad_pairs_lem (every in_order (pairs_of page)) (rises (firsts (pairs_of page))) (all_apart (pairs_of page)),
    )
