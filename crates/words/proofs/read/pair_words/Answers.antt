-- `read::pair_words` makes the word of one pair after the other. Assumes nothing.
use mathlib.Core.Path.{◌≡◌, refl, ap, ◌∙◌}
use mathlib.Core.List.{List, ◌∷◌, map}
use Prim.Native.Nat.{ℕ, ◌+◌, ◌-◌, ◌*◌}
use native.Mathlib.Nat.{sub-zero, add-zero}
use native.Mathlib.Omega.{arith}
use Rattle.page.specs.Fields.{word_at}
use Rattle.page.specs.Program.{pairs_from}
use Rattle.page.proofs.Scan.{pairs_step, pairs_none}
use Rattle.words.specs.Coded.{pair_word, pair_words}
use Rattle.words.proofs.Filled.{pushed, all_pushed}
use Rattle.words.proofs.read.pair_words.Goals as goal

-- the pairs to come: the one in hand, by its word, and the rest
to-come : (page : List ℕ) (at n m next w : ℕ) → n ≡ m + 1 → next ≡ at + 2 → w ≡ word_at page at
    → map pair_word (pairs_from page at n) ≡ w ∷ map pair_word (pairs_from page next m)
unfolding pair_word word_at
to-come page at n m next w e en ew = ap (map pair_word) (pairs_step page at n m e next en _ _ refl refl) ∙ rw (← ew)

pub loop-n-init : goal.loop-n-init
unfolding pair_words
loop-n-init c = record {
  many = rw c.new-words.ensures refl;
  filled = rw (c.new-words.ensures, add-zero, sub-zero, c.pairs_at-from.ensures, c.pair_total-n-end.ensures.0);
}

pub loop-n-preserved : goal.loop-n-preserved
loop-n-preserved c =
    let h = c.loop-n in
    let many = c.pair_total-n-end.result in
    let w = c.pair_word in
    record {
      many = omega (arith, c.push.ensures.len, h.invariant.many);
      filled = pushed _ _ _ _ _ w.result c.push.ensures.items h.invariant.filled
          (to-come _ (c.pairs_at-from.result + 2 * h.n) (many - h.n) (many - (h.n + 1)) _ w.result (omega arith) (omega arith) w.ensures);
    }

pub returns : goal.returns
returns c =
    let h = c.loop-n in
    all_pushed _ _ _ h.invariant.filled (ap (map pair_word) (pairs_none c.args.page.now _ _ (omega arith)))
