-- `search::indexes` makes the index block by block, where there is more than one. What is kept: it is right below block b, and block b lies between
-- low and high where it has marks. Assumes nothing.
use mathlib.Core.Path.{refl, ◌∙◌}
use native.Mathlib.Omega.{arith}
use lib.ListN.{length-set}
use Rattle.atoms.proofs.Bits.{inside_test}
use Rattle.lanes.proofs.Index.{index_first, index_more, index_full}
use Rattle.lanes.proofs.search.indexes.Goals as goal

pub returns-then-words-eq1 : goal.returns-then-words-eq1
returns-then-words-eq1 c =
    let i = c.args.index.now in
    (index_full c.args.rules.rows.now i c.args.marks.words.now c.requires.0 c.if-words-eq1.true (omega (arith, c.requires.1)), length-set i 0 4294967295)

pub loop-b-init : goal.loop-b-init
loop-b-init c =
    (omega arith, λ l. (inside_test _ _ (λ i t. t), c.args.marks.span.order), refl, index_first c.args.rules.rows.now c.args.index.now _ _ _ c.args.marks.between)

pub loop-b-preserved : goal.loop-b-preserved
loop-b-preserved c =
    let f = c.firsts in
    let h = c.loop-b in
    let n = c.next-b in (
      omega (arith, n.ensures.1),
      λ l. n.ensures.3 (omega (arith, c.requires.1)),
      length-set h.index h.b f.result ∙ h.invariant.2,
      index_more c.args.rules.rows.now h.index _ _ _ c.args.marks.between h.b n.result f.result (omega (arith, c.requires.1, h.invariant.2)) h.invariant.3 f.ensures n.ensures.0 n.ensures.2,
    )
