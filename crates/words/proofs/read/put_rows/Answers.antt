-- `read::put_rows` makes the word of one row after the other. Assumes nothing.
use mathlib.Core.Path.{◌≡◌, refl, ap, ◌∙◌}
use mathlib.Core.List.{List, ◌∷◌, map}
use Prim.Native.Nat.{ℕ, ◌<◌}
use native.Mathlib.Nat.{sub-zero}
use native.Mathlib.Omega.{arith}
use Rattle.lpod.specs.Rule.{Rule}
use Rattle.page.proofs.RowSteps.{at_first, at_next, rest_step, rest_none}
use Rattle.words.specs.Coded.{row_word, row_words}
use Rattle.words.proofs.Filled.{pushed, all_pushed}
use Rattle.words.proofs.read.put_rows.Goals as goal

-- the rows to come: the one in hand, by its word, and the rest
to-come : (P rest : List Rule) (r : Rule) (w : ℕ) → P ≡ r ∷ rest → w ≡ row_word r → map row_word P ≡ w ∷ map row_word rest
to-come P rest r w e ew = ap (map row_word) e ∙ rw (← ew)

pub loop-n-init : goal.loop-n-init
unfolding row_words
loop-n-init c =
    let first = c.first_place-place.ensures in
    record {
      at_row = at_first _ _ first;
      many = rw c.clear.ensures refl;
      filled = rw (c.clear.ensures, sub-zero, first, c.row_total-total.ensures.0);
    }

pub loop-n-preserved : goal.loop-n-preserved
loop-n-preserved c =
    let w = c.row_word in
    let row = c.row_from-row in
    let h = c.loop-n in
    let total = c.row_total-total.result in
    let small : h.n < 65536 = omega (arith, c.row_total-total.ensures.1) in
    record {
      at_row = at_next _ c.type_inv.page h.n _ row.result small h.invariant.at_row row.ensures _ c.place_after-place.ensures;
      many = omega (arith, c.push.ensures.len, h.invariant.many);
      filled = pushed _ _ _ _ _ w.result c.push.ensures.items h.invariant.filled (to-come _ _ _ w.result
          (rest_step _ c.type_inv.page h.n _ row.result small h.invariant.at_row row.ensures total _ (omega arith) c.place_after-place.ensures) w.ensures);
    }

pub returns : goal.returns
returns c =
    let h = c.loop-n in
    all_pushed _ _ _ h.invariant.filled (ap (map row_word) (rest_none c.args.page.now h.n h.place c.row_total-total.result (omega arith)))
