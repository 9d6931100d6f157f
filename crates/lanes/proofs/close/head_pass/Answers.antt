-- `close::head_pass` takes the head's digits one after the other. Assumes nothing.
use Prim.Native.Nat.{ℕ, ◌+◌, ◌-◌, ◌%◌, ◌≤◌}
use mathlib.Core.Path.{refl, sym, ap, ◌∙◌}
use mathlib.Core.Bool.{◌&&◌}
use mathlib.Core.List.{List}
use native.Mathlib.Omega.{arith}
use lib.Bits.{bit_and}
use Rattle.atoms.specs.Atoms.{has}
use Rattle.atoms.proofs.Bits.{has_zero}
use Rattle.lpod.specs.Satisfied.{none_in}
use Rattle.words.proofs.Places.{digits_step, digits_none}
use Rattle.lanes.specs.Lanes.{column}
use Rattle.lanes.specs.Pass.{put, adds}
use Rattle.lanes.proofs.Words.{full}
use Rattle.lanes.proofs.Columns.{put_length}
use Rattle.lanes.proofs.Passing.{head_start, head_turn, head_end, put_turn, put_end, adds_turn, adds_end}
use Rattle.lanes.proofs.close.head_pass.Goals as goal

pub loop-init : goal.loop-init
loop-init c =
    let a = c.args in
    let e = head_start a.row (c.head_count-end.result - 0) (omega arith) in
    record {
      long = c.told-cur;
      none = λ j l. ap (λ (hs : List ℕ). has a.t j && none_in hs (column a.w.now j)) e;
      reached = λ j l. ap (λ (hs : List ℕ). put hs (column a.w.now j) (has a.t j && has a.fire j) (column a.cur.now j)) e;
      grows = λ j l. rw (has_zero j) (ap (λ (hs : List ℕ). adds hs (column a.w.now j) (has a.t j && has a.fire j) (column a.cur.now j)) e);
    }

pub loop-preserved : goal.loop-preserved
loop-preserved c =
    let h = c.loop in
    let k = h.invariant in
    let n = c.head_count-end.result in
    let a = c.args in
    let e = digits_step (n - h.counter) (n - (h.counter + 1)) h.d (omega arith) in
    let y = c.at-y in
    let z = c.at in
    let m : y.result ≤ full = omega (arith, y.type_inv) in
    record {
      long = put_length h.cur _ (h.d % 16) (bit_and (bit_and h.x a.fire) y.result) refl ∙ k.long;
      none = λ j l. k.none j l ∙ head_turn e a.w.now h.x y.result y.ensures m j l;
      reached = λ j l. k.reached j l ∙ put_turn e a.w.now h.x y.result y.ensures m j l a.fire h.cur _ (omega arith) refl;
      grows = λ j l. k.grows j l ∙ adds_turn e a.w.now h.x y.result y.ensures m j l a.fire h.grew z.result h.cur _ (omega arith) z.ensures (omega (arith, z.type_inv)) refl;
    }

pub returns : goal.returns
returns c =
    let h = c.loop in
    let k = h.invariant in
    let e = digits_none (c.head_count-end.result - h.counter) h.d (omega arith) in
    (λ j l. sym (k.none j l ∙ head_end e _ _), λ j l. sym (k.reached j l ∙ put_end e _ _ _), λ j l. sym (k.grows j l ∙ adds_end e _ _ _ _))
