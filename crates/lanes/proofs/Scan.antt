-- A block's word that says which sets pass: where it is 0 no set of the block passes; else its lowest bit is the least that does. Blocks that have no
-- marks are passed over. Assumes nothing.
use mathlib.Core.Path.{◌≡◌, sym, ap, ◌∙◌, subst}
use mathlib.Core.Bool.{Bool}
use mathlib.Core.List.{List}
use Prim.Native.Nat.{ℕ, ◌+◌, ◌-◌, ◌*◌, ◌^◌, ◌≤◌, ◌<◌}
use native.Mathlib.Omega.{arith}
use lib.Count.{count_trailing_zeros}
use lib.Dec.{T}
use lib.ListN.{length}
use Rattle.atoms.specs.Atoms.{has, inside}
use Rattle.atoms.proofs.Truth.{and_l}
use Rattle.atoms.proofs.Bits.{has_zero, has_below}
use Rattle.atoms.proofs.Count.{lowest_in, lowest_first}
use Rattle.lanes.specs.Lanes.{Says}
use Rattle.lanes.specs.Seek.{next_from}
use Rattle.lanes.specs.Marks.{marked, Within}
use Rattle.lanes.specs.Left.{rival}
use Rattle.lanes.proofs.Seek.{NoneBetween, next_is, next_skip, next_none}
use Rattle.lanes.proofs.Marked.{none_before, none_to, none_past}

module _ (q : ℕ → Bool) (b x : ℕ) (says : Says b x q) where
  -- a set of the block passes where its bit is there
  lane : (s : ℕ) → 64 * b ≤ s → s < 64 * (b + 1) → q s ≡ has x (s - 64 * b)
  lane s l h = let i : s ≡ 64 * b + (s - 64 * b) = omega arith in ap q i ∙ sym (says (s - 64 * b) (omega arith))

  pub word_none : x ≡ 0 → NoneBetween q (64 * b) (64 * (b + 1))
  word_none z s l h t = subst T (lane s l h ∙ ap (λ (n : ℕ). has n (s - 64 * b)) z ∙ has_zero (s - 64 * b)) t

  pub word_first : x < 2 ^ 64 → (x ≡ 0 → ⊥) → b < 1024 → next_from q (64 * b) ≡ 64 * b + count_trailing_zeros 64 x
  word_first small some h =
      let t = lowest_in 64 x small (omega (arith, some)) in
      let l = has_below 64 x (count_trailing_zeros 64 x) small t in
      next_is q (64 * b) (64 * b + count_trailing_zeros 64 x) (omega arith) (omega (arith, l))
      (λ s a c u. lowest_first 64 x (s - 64 * b) (omega arith) (subst T (lane s a (omega (arith, l))) u))
      (subst T (says (count_trailing_zeros 64 x) l) t)

-- ---- rivals, from block to block: they are marked
module _ (over : ℕ → ℕ → Bool) (marks : List ℕ) (M low high : ℕ) (w : Within marks low high) where
  has_mark : (s : ℕ) → T (rival over marks M s) → T (marked marks s)
  has_mark s t = and_l (marked marks s) (over s M) t

  pub scan_start : low ≤ 1024 → next_from (rival over marks M) 0 ≡ next_from (rival over marks M) (64 * low)
  scan_start h = next_skip (rival over marks M) 0 (64 * low) (omega arith) (omega arith) (λ s a b t. none_before marks low high w s a b (has_mark s t))

  -- a search that has come to the end of block b goes on in the next that lies between
  pub scan_on : (b c : ℕ) → NoneBetween (rival over marks M) (64 * b) (64 * (b + 1)) → b < c → c ≤ 1024
      → ((d : ℕ) → b < d → d < c → T (inside low d) → T (inside d high) → ⊥) → next_from (rival over marks M) (64 * b) ≡ next_from (rival over marks M) (64 * c)
  scan_on b c n l k g =
      next_skip (rival over marks M) (64 * b) (64 * (b + 1)) (omega arith) (omega arith) n
      ∙ next_skip (rival over marks M) (64 * (b + 1)) (64 * c) (omega arith) (omega arith) (λ s a d t. none_to marks low high w b c g s a d (has_mark s t))

  pub scan_end : (b : ℕ) → b ≤ 1024 → length marks ≤ b → next_from (rival over marks M) (64 * b) ≡ 65536
  scan_end b h l = next_none (rival over marks M) (64 * b) (omega arith) (λ s a c t. none_past marks b l s a c (has_mark s t))
