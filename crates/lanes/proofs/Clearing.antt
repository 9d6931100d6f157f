-- Marks lost because M is preferred: nothing is lost at first, a block's word may lose lanes, and one loss may follow another. Then no best set has
-- lost its mark, nor M itself, nor a set that is preferred to M. Assumes nothing.
use mathlib.Core.Path.{◌≡◌, refl, sym, ap, ◌∙◌, subst}
use mathlib.Core.Bool.{Bool, ◌&&◌, not}
use mathlib.Core.List.{List}
use Prim.Native.Nat.{ℕ, ◌+◌, ◌-◌, ◌*◌, ◌/◌, ◌%◌, ◌≤◌, ◌<◌}
use native.Mathlib.Decide.{ℕ_discrete}
use native.Mathlib.Omega.{arith}
use lib.Bits.{bit_and}
use lib.Dec.{T, not_T}
use lib.ListN.{length, get_or, set, length-set}
use lib.Seq.{get_or-set_same, get_or-set_other}
use Rattle.atoms.specs.Atoms.{has}
use Rattle.atoms.proofs.Truth.{and_l, and_r, both, same_yes}
use Rattle.atoms.proofs.Bits.{has_and}
use Rattle.lpod.specs.Lists.{numbers}
use Rattle.lpod.proofs.Lists.{keep_strict, numbers_in}
use Rattle.lanes.specs.Lanes.{Says}
use Rattle.lanes.specs.Seek.{all_from}
use Rattle.lanes.specs.Marks.{marked}
use Rattle.lanes.specs.Left.{Left, Cleared, rival}
use Rattle.lanes.proofs.Words.{full, has_not}
use Rattle.lanes.proofs.BestKept.{Strict, best_passes, best_unbeaten}

module _ (over : ℕ → ℕ → Bool) (M : ℕ) where
  pub clear_none : (marks : List ℕ) → Cleared over M marks marks
  clear_none marks = record { same = refl; less = λ s t. t; kept = λ s t n. t }

  pub clear_more : (before marks after : List ℕ) → Cleared over M before marks → Cleared over M marks after → Cleared over M before after
  clear_more before marks after f g = record {
    same = g.same ∙ f.same;
    less = λ s t. f.less s (g.less s t);
    kept = λ s t n. g.kept s (f.kept s t n) n;
  }

  -- ---- x is the word of block b, and w the lanes that it loses: some of those to which M is preferred
  module _ (marks : List ℕ) (b x w some : ℕ) (l : b < length marks) (ex : x ≡ get_or marks b 0) (ok : w ≤ full)
      (f : (j : ℕ) → j < 64 → has w j ≡ (has some j && over M (64 * b + j))) where
    fewer : List ℕ
    fewer = set marks b (bit_and x (full - w))

    -- in block b, and in any other
    here : (s : ℕ) → s / 64 ≡ b → marked fewer s ≡ (marked marks s && not (has w (s % 64)))
    unfolding marked fewer
    here s e =
        ap (λ (c : ℕ). has (get_or (set marks b (bit_and x (full - w))) c 0) (s % 64)) e ∙ ap (λ (v : ℕ). has v (s % 64)) (get_or-set_same marks b (bit_and x (full - w)) 0 l)
        ∙ has_and x (full - w) (s % 64) ∙ ap (λ (y : Bool). has x (s % 64) && y) (has_not w (s % 64) ok (omega arith))
        ∙ ap (λ (v : ℕ). has v (s % 64) && not (has w (s % 64))) (ex ∙ ap (λ (c : ℕ). get_or marks c 0) (sym e))

    there : (s : ℕ) → (s / 64 ≡ b → ⊥) → marked fewer s ≡ marked marks s
    unfolding marked fewer
    there s n = ap (λ (v : ℕ). has v (s % 64)) (get_or-set_other marks b (s / 64) (bit_and x (full - w)) 0 n)

    pub clear_block : Cleared over M marks (set marks b (bit_and x (full - w)))
    unfolding fewer
    clear_block = record {
      same = length-set marks b (bit_and x (full - w));
      less = λ s t. less s t (ℕ_discrete (s / 64) b);
      kept = λ s t n. kept s t n (ℕ_discrete (s / 64) b);
    }
      where
        less : (s : ℕ) → T (marked fewer s) → Dec (s / 64 ≡ b) → T (marked marks s)
        less s t (yes e) = and_l (marked marks s) (not (has w (s % 64))) (subst T (here s e) t)
        less s t (no n) = subst T (there s n) t

        kept : (s : ℕ) → T (marked marks s) → (T (over M s) → ⊥) → Dec (s / 64 ≡ b) → T (marked fewer s)
        kept s t n (yes e) =
            let i : 64 * b + s % 64 ≡ s = omega arith in
            subst T (sym (here s e)) (both (marked marks s) (not (has w (s % 64))) t
            (not_T (has w (s % 64)) (λ u. n (subst (λ (y : ℕ). T (over M y)) i (and_r (has some (s % 64)) (over M (64 * b + s % 64)) (subst T (f (s % 64) (omega arith)) u))))))
        kept s t n (no d) = subst T (sym (there s d)) t

  -- ---- what is kept
  module _ (before after : List ℕ) (h : Cleared over M before after) where
    pub clear_left : M < 65536 → T (marked before M) → Left over before after
    clear_left l u = record {
      same = h.same;
      less = h.less;
      best = λ s t. h.kept s (best_passes over (marked before) s t) (λ o. best_unbeaten over (marked before) s M l u o t);
    }

    module _ (o : Strict over) where
      pub clear_own : T (marked before M) → T (marked after M)
      clear_own t = h.kept M t (o.never M)

      pub clear_rival : (s : ℕ) → T (marked before s) → T (over s M) → T (marked after s)
      clear_rival s t u = h.kept s t (λ v. o.never M (o.onward M s M v u))

      -- so the rivals are the same before and after
      pub rivals_before : (b x : ℕ) → Says b x (rival over after M) → Says b x (rival over before M)
      rivals_before b x f j l =
          let s = 64 * b + j in
          f j l
          ∙ same_yes (marked after s && over s M) (marked before s && over s M)
          (λ t. both (marked before s) (over s M) (h.less s (and_l (marked after s) (over s M) t)) (and_r (marked after s) (over s M) t))
          (λ t. let u = and_r (marked before s) (over s M) t in both (marked after s) (over s M) (clear_rival s (and_l (marked before s) (over s M) t) u) u)

      -- and k, a rival of M, has fewer: a way up ends
      pub way_shorter : (k : ℕ) → k < 65536 → T (rival over before M k) → length (all_from (rival over after k) 0) < length (all_from (rival over before M) 0)
      unfolding all_from
      way_shorter k l t =
          let u = and_r (marked before k) (over k M) t in
          keep_strict (rival over after k) (rival over before M)
          (λ x v. both (marked before x) (over x M) (h.less x (and_l (marked after x) (over x k) v)) (o.onward x k M (and_r (marked after x) (over x k) v) u))
          (numbers 0 65536) k (numbers_in 0 65536 k (omega arith) (omega arith)) t (λ v. o.never k (and_r (marked after k) (over k k) v))
