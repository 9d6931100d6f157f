-- The best of the marked sets, while beaten sets lose their marks. What is kept on the way is that no set gains a mark and no best set
-- loses it; and that between the place where the search began and the set in hand nothing is marked any more. Assumes nothing.
use mathlib.Core.Path.{◌≡◌, refl, sym, ◌∙◌, subst}
use mathlib.Core.Bool.{Bool, ◌&&◌, not}
use mathlib.Core.List.{List}
use Prim.Native.Nat.{ℕ, ◌+◌, ◌≤◌, ◌<◌}
use native.Mathlib.Decide.{ℕ_discrete, dec_lt}
use native.Mathlib.Omega.{arith}
use lib.Dec.{T, eqb, eqb→eq, eqb_refl, T_not, not_T}
use lib.ListN.{length}
use Rattle.atoms.proofs.Truth.{and_l, and_r, both, same_yes}
use Rattle.lanes.specs.Seek.{next_from}
use Rattle.lanes.specs.Marks.{marked}
use Rattle.lanes.specs.Rank as rank
use Rattle.lanes.specs.Search.{sought_best}
use Rattle.lanes.specs.Left.{Left, rival}
use Rattle.lanes.proofs.Seek.{NoneBetween, next_ge, next_le, next_passes, next_miss, next_is, next_none}
use Rattle.lanes.proofs.RankedRows.{over_irreflexive, over_transitive}
use Rattle.lanes.proofs.BestKept.{Strict, best_passes, best_unbeaten, kept_best, best_kept, same_best}

-- ---- the relation of the rows is such a one
pub by_rows : (rows : List ℕ) → Strict (rank.over rows)
by_rows rows = record { never = over_irreflexive rows; onward = over_transitive rows }

-- ---- how far a search goes
module _ (q : ℕ → Bool) (i m : ℕ) (e : m ≡ next_from q i) where
  pub reaches : i ≤ m
  reaches = rw e (next_ge q i)

  pub stays : i ≤ 65536 → m ≤ 65536
  stays l = rw e (next_le q i l)

  pub none_to_first : NoneBetween q i m
  none_to_first = rw e (next_miss q i)

-- ---- a rival that is found
module _ (over : ℕ → ℕ → Bool) (marks : List ℕ) (m i k : ℕ) (e : k ≡ next_from (rival over marks m) i) where
  pub found : k < 65536 → T (rival over marks m k)
  found l = next_passes (rival over marks m) i k e l

  pub found_marked : k < 65536 → T (marked marks k)
  found_marked l = and_l (marked marks k) (over k m) (found l)

  pub found_over : k < 65536 → T (over k m)
  found_over l = and_r (marked marks k) (over k m) (found l)

  pub none_found : 65536 ≤ k → (s : ℕ) → i ≤ s → s < 65536 → T (marked marks s) → T (over s m) → ⊥
  none_found h s a b t o = next_miss (rival over marks m) i s a (subst (λ (n : ℕ). s < n) e (omega arith)) (both (marked marks s) (over s m) t o)

-- ---- what is left
pub left_start : (over : ℕ → ℕ → Bool) (marks : List ℕ) → Left over marks marks
left_start over marks = record { same = refl; less = λ s t. t; best = λ s t. best_passes over (marked marks) s t }

module _ (over : ℕ → ℕ → Bool) (o : Strict over) (before marks : List ℕ) (h : Left over before marks) where
  -- nothing that is left is preferred to s
  pub left_best : (s n : ℕ) → s < 65536 → T (marked marks s) → n ≡ next_from (rival over marks s) 0 → 65536 ≤ n → T (sought_best over before s)
  left_best s n l t e k = kept_best over o (marked before) (marked marks) h.less h.best s l t (λ y a u v. none_found over marks s 0 n e k y (omega arith) a u v)

  -- what is left of what is left
  pub left_more : (after : List ℕ) → Left over marks after → Left over before after
  left_more after g = record {
    same = g.same ∙ h.same;
    less = λ s t. h.less s (g.less s t);
    best = λ s t. g.best s (best_kept over o (marked before) (marked marks) h.less h.best s t);
  }

  left_sought : (s : ℕ) → s < 65536 → T (sought_best over marks s) → T (sought_best over before s)
  left_sought s l t = same_best over o (marked before) (marked marks) h.less h.best s l t

-- nothing is marked from m on up to s: so the search has come to s
module _ (over : ℕ → ℕ → Bool) (before marks : List ℕ) (h : Left over before marks) where
  pub settled_here : (m s : ℕ) → m ≤ s → s < 65536 → NoneBetween (marked marks) m s → T (sought_best over before s) → s ≡ next_from (sought_best over before) m
  settled_here m s a l f t = sym (next_is (sought_best over before) m s a l (λ x b k u. f x b k (h.best x u)) t)

  pub settled_end : (m s : ℕ) → m ≤ 65536 → s ≡ 65536 → NoneBetween (marked marks) m s → s ≡ next_from (sought_best over before) m
  settled_end m s a e f = e ∙ sym (next_none (sought_best over before) m a (λ x b k u. f x b (omega (arith, k, e)) (h.best x u)))

-- ---- only s has lost its mark
module _ (marks after : List ℕ) (s : ℕ) (f : (x : ℕ) → marked after x ≡ (marked marks x && not (eqb x s))) where
  dropped_kept : (x : ℕ) → T (marked marks x) → (x ≡ s → ⊥) → T (marked after x)
  dropped_kept x t d = subst T (sym (f x)) (both (marked marks x) (not (eqb x s)) t (not_T (eqb x s) (λ q. d (eqb→eq x s q))))

  pub dropped_own : T (marked after s) → ⊥
  dropped_own t = T_not (eqb s s) (and_r (marked marks s) (not (eqb s s)) (subst T (f s) t)) (eqb_refl s)

  -- and n is preferred to it
  module _ (over : ℕ → ℕ → Bool) (n : ℕ) (u : T (marked marks n)) (v : T (over n s)) where
    pub dropped_left : length after ≡ length marks → n < 65536 → Left over marks after
    dropped_left e l = record {
      same = e;
      less = λ x t. and_l (marked marks x) (not (eqb x s)) (subst T (f x) t);
      best = λ x t. dropped_kept x (best_passes over (marked marks) x t) (λ q. best_unbeaten over (marked marks) x n l u (subst (λ (y : ℕ). T (over n y)) (sym q) v) t);
    }

    pub dropped_other : Strict over → T (marked after n)
    dropped_other o = dropped_kept n u (λ q. o.never n (subst (λ (y : ℕ). T (over n y)) (sym q) v))

-- s has lost its mark, and s' is the next that is left
pub passed_on : (over : ℕ → ℕ → Bool) (marks after : List ℕ) → Left over marks after → (m s s' : ℕ) → (T (marked after s) → ⊥) → s' ≡ next_from (marked after) (s + 1) → NoneBetween (marked marks) m s
    → NoneBetween (marked after) m s'
passed_on over marks after h m s s' o e n x a k t = go (ℕ_discrete x s) (dec_lt x s)
  where
    go : Dec (x ≡ s) → Dec (x < s) → ⊥
    go (yes z) d = o (subst (λ (y : ℕ). T (marked after y)) z t)
    go (no z) (yes d) = n x a d (h.less x t)
    go (no z) (no d) = next_miss (marked after) (s + 1) x (omega arith) (subst (λ (y : ℕ). x < y) e k) t

-- ---- one best set after the other: below m only best sets are marked, and s is the next best one
module _ (over : ℕ → ℕ → Bool) (o : Strict over) (before marks after : List ℕ) (h : Left over before marks) (g : Left over marks after) (m s : ℕ) (e : s ≡ next_from (sought_best over marks) m)
    (none : NoneBetween (marked after) m s) (f : (x : ℕ) → x < m → T (marked marks x) → T (sought_best over before x)) where
  pub kept_to : (x : ℕ) → x < s → T (marked after x) → T (sought_best over before x)
  kept_to x k t = go (dec_lt x m)
    where
      go : Dec (x < m) → T (sought_best over before x)
      go (yes d) = f x d (g.less x t)
      go (no d) = absurd (none x (omega arith) k t)

  -- and m' is the next that is marked
  pub kept_on : s < 65536 → (m' : ℕ) → m' ≡ next_from (marked after) (s + 1) → (x : ℕ) → x < m' → T (marked after x) → T (sought_best over before x)
  kept_on l m' e' x k t = go (ℕ_discrete x s) (dec_lt x s)
    where
      go : Dec (x ≡ s) → Dec (x < s) → T (sought_best over before x)
      go (yes z) d = subst (λ (y : ℕ). T (sought_best over before y)) (sym z) (left_sought over o before marks h s l (next_passes (sought_best over marks) m s e l))
      go (no z) (yes d) = kept_to x d t
      go (no z) (no d) = absurd (next_miss (marked after) (s + 1) x (omega arith) (subst (λ (y : ℕ). x < y) e' k) t)

-- only best sets are marked: so just those are
pub kept_all : (over : ℕ → ℕ → Bool) (before after : List ℕ) → Left over before after → (n : ℕ) → 65536 ≤ n → ((x : ℕ) → x < n → T (marked after x) → T (sought_best over before x))
    → (s : ℕ) → s < 65536 → marked after s ≡ sought_best over before s
kept_all over before after h n k f s l = same_yes (marked after s) (sought_best over before s) (f s (omega arith)) (h.best s)
