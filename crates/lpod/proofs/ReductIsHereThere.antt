-- The reduct test and the here-and-there test say the same, for every program and every set. Row by row: for H inside T, and T satisfying
-- the row, (H, T) is a model of the row exactly where H is closed under what the row gives the reduct. So a smaller model is a smaller
-- closed set, and the other way round; and T is always closed under its own reduct. Assumes nothing.
use mathlib.Core.Path.{◌≡◌, refl, sym, subst}
use mathlib.Core.Bool.{Bool, true, false, ◌&&◌, ◌||◌, not, cond}
use mathlib.Core.Logic.{⊎_elim}
use mathlib.Core.List.Memᴰ
use mathlib.Core.List.{List, [], ◌∷◌, Memᴰ}
use Prim.Native.Nat.{ℕ, ◌≤◌, ◌<◌}
use native.Mathlib.Omega.{arith}
use native.Mathlib.Decide.{ℕ_discrete}
use lib.Arith.{lt_of_le-ne}
use lib.Dec.{T}
use Rattle.atoms.specs.Atoms.{has, Inside, inside}
use Rattle.atoms.proofs.Truth.{and_l, and_r, both, not_both, not_from, same_yes, true_yes, false_no}
use Rattle.atoms.proofs.Bits.{inside_le, inside_test, test_inside}
use Rattle.lpod.specs.Lists.{some, below}
use Rattle.lpod.specs.Rule.{Rule, Program, rules}
use Rattle.lpod.specs.Satisfied.{all_in, some_in, none_in, body_holds, satisfies, satisfies_all, no_pair}
use Rattle.lpod.specs.Reduct.{Definite, reduct_row, reduct}
use Rattle.lpod.specs.Least.{least, Closed}
use Rattle.lpod.specs.Answer.{answer}
use Rattle.lpod.specs.HereThere.{head_holds, row_holds, model, no_smaller, here_there}
use Rattle.lpod.proofs.Lists.{every_at, every_made, in_gather, gather_in, in_numbers, numbers_in}
use Rattle.lpod.proofs.LeastClosed.{all_mono, least_closed, least_inside}
use Rattle.lpod.proofs.AnswerParts.{answer_says}
use Rattle.lpod.proofs.FirstAtom.{first_in, ifs, row_first, row_of}

-- ---- one head
head_closed : (cs b : List ℕ) (H I : ℕ) → T (head_holds cs H I) → Closed (ifs (first_in cs I) b) H
unfolding head_holds first_in ifs
head_closed [] b H I h = absurd h
head_closed (c ∷ cs) b H I h = go (has I c) h (head_closed cs b H I)
  where
    go : (t : Bool) → T (cond t (has H c) (head_holds cs H I)) → (T (head_holds cs H I) → Closed (ifs (first_in cs I) b) H) → Closed (ifs (cond t (c ∷ []) (first_in cs I)) b) H
    go true h ih d m k = ⊎_elim (λ e. subst (λ (x : Definite). T (has H x.atom)) (sym e) h) (λ n. elim n [ ]) (Memᴰ.cases_cons m)
    go false h ih d m k = ih h d m k

closed_head : (cs b : List ℕ) (H I : ℕ) → Closed (ifs (first_in cs I) b) H → T (some_in cs I) → T (all_in b H) → T (head_holds cs H I)
unfolding head_holds first_in ifs some_in some
closed_head [] b H I k s a = s
closed_head (c ∷ cs) b H I k s a = go (has I c) k s (λ k s. closed_head cs b H I k s a)
  where
    go : (t : Bool) → Closed (ifs (cond t (c ∷ []) (first_in cs I)) b) H → T (t || some (has I) cs)
        → (Closed (ifs (first_in cs I) b) H → T (some (has I) cs) → T (head_holds cs H I)) → T (cond t (has H c) (head_holds cs H I))
    go true k s ih = k (record { atom = c; body = b }) (Memᴰ.head refl) a
    go false k s ih = ih k s

unread : (cs b : List ℕ) (H : ℕ) → (T (all_in b H) → ⊥) → Closed (ifs cs b) H
unfolding ifs
unread [] b H n d m h = elim m [ ]
unread (c ∷ cs) b H n d m h =
    ⊎_elim (λ e. absurd (n (subst (λ (y : Definite). T (all_in y.body H)) e h))) (λ i. unread cs b H n d i h) (Memᴰ.cases_cons m)

-- ---- one row
module _ (r : Rule) (H I : ℕ) where
  abbrev Given : List Definite → Type 0
  Given D = Closed D H

  row_closed : T (row_holds H I r) → Closed (reduct_row r I) H
  unfolding row_holds
  row_closed h = subst Given (sym (row_first r I)) (go (none_in r.neg I) (all_in r.pos H) refl (and_r (satisfies I r) _ h))
    where
      go : (n a : Bool) → all_in r.pos H ≡ a → T (not (a && n) || head_holds r.head H I) → Closed (cond n (ifs (first_in r.head I) r.pos) []) H
      go true true e k = head_closed r.head r.pos H I k
      go true false e k = unread (first_in r.head I) r.pos H (false_no e)
      go false a e k = λ d m t. elim m [ ]

  closed_row : Inside H I → T (satisfies I r) → Closed (reduct_row r I) H → T (row_holds H I r)
  unfolding row_holds satisfies body_holds
  closed_row f s k =
      both (satisfies I r) _ s
      (go (none_in r.neg I) (all_in r.pos H) (all_in r.pos I) refl refl (all_mono r.pos H I f) s (subst Given (row_first r I) k))
    where
      go : (n a b : Bool) → all_in r.pos H ≡ a → all_in r.pos I ≡ b → (T (all_in r.pos H) → T (all_in r.pos I)) → T (not (b && n) || some_in r.head I)
          → Closed (cond n (ifs (first_in r.head I) r.pos) []) H → T (not (a && n) || head_holds r.head H I)
      go true true true e g m s k = closed_head r.head r.pos H I k s (true_yes e)
      go true true false e g m s k = absurd (false_no g (m (true_yes e)))
      go true false b e g m s k = tt
      go false true b e g m s k = tt
      go false false b e g m s k = tt

-- ---- all rows
pub model_closed : (P : List Rule) (H I : ℕ) → T (model P H I) → Closed (reduct P I) H
unfolding model reduct
model_closed P H I h d m k =
    let g = in_gather (λ r. reduct_row r I) P d m in
    row_closed g.0 H I (every_at (row_holds H I) P h g.0 g.1.0) d g.1.1 k

pub closed_model : (P : List Rule) (H I : ℕ) → Inside H I → T (satisfies_all I P) → Closed (reduct P I) H → T (model P H I)
unfolding model reduct satisfies_all
closed_model P H I f s k =
    every_made (row_holds H I) P (λ r m. closed_row r H I f (every_at (satisfies I) P s r m) (λ d n. k d (gather_in (λ r. reduct_row r I) P r d m n)))

model_satisfies : (P : List Rule) (H I : ℕ) → T (model P H I) → T (satisfies_all I P)
unfolding model satisfies_all row_holds
model_satisfies P H I h = every_made (satisfies I) P (λ r m. and_l (satisfies I r) _ (every_at (row_holds H I) P h r m))

-- a set is closed under its own reduct: only leastness is ever in doubt
pub self_closed : (P : List Rule) (I : ℕ) → Closed (reduct P I) I
unfolding reduct
self_closed P I d m k = let g = in_gather (λ r. reduct_row r I) P d m in (row_of g.0 I d g.1.1).1

-- no smaller H, as it is tested and as it is said
none_smaller : (P : List Rule) (I : ℕ) → T (no_smaller P I) → (H : ℕ) → H < I → Inside H I → T (model P H I) → ⊥
unfolding no_smaller
none_smaller P I t H l f h =
    not_both (inside H I) (model P H I) (every_at (λ H. not (inside H I && model P H I)) (below I) t H (numbers_in 0 I H (omega arith) (omega arith))) (inside_test H I f) h

smaller_none : (P : List Rule) (I : ℕ) → ((H : ℕ) → H < I → Inside H I → T (model P H I) → ⊥) → T (no_smaller P I)
unfolding no_smaller
smaller_none P I f =
    every_made (λ H. not (inside H I && model P H I)) (below I)
    (λ H m. not_from (inside H I) (model P H I) (λ i h. f H (let r = in_numbers 0 I H m in omega (arith, r.1)) (test_inside H I i) h))

-- ---- the two tests
module _ (p : Program) (I : ℕ) where
  P : List Rule
  P = rules p

  to : T (answer p I) → T (here_there p I)
  unfolding here_there P
  to t =
      let a = (answer_says p I).0 t in
      both (no_pair p.pairs I) _ a.pair
      (both (model P I I) _ (closed_model P I I (λ i h. h) a.satisfied (self_closed P I))
      (smaller_none P I (λ H l f h. let k : I ≤ H = inside_le I H (subst (λ (x : ℕ). Inside x H) a.supported (least_inside (reduct P I) H (model_closed P H I h))) in omega arith)))

  from : T (here_there p I) → T (answer p I)
  unfolding here_there P
  from t =
      let u = and_r (no_pair p.pairs I) (model P I I && no_smaller P I) t in
      let s : T (satisfies_all I P) = model_satisfies P I I (and_l (model P I I) (no_smaller P I) u) in
      (answer_says p I).1
      (record {
        pair = and_l (no_pair p.pairs I) _ t;
        satisfied = s;
        supported = go s (and_r (model P I I) _ u) (least_inside (reduct P I) I (self_closed P I)) (ℕ_discrete (least (reduct P I)) I);
      })
    where
      L : ℕ
      L = least (reduct P I)

      go : T (satisfies_all I P) → T (no_smaller P I) → Inside L I → Dec (L ≡ I) → L ≡ I
      go s n i (yes e) = e
      go s n i (no e) = absurd (none_smaller P I n L (lt_of_le-ne (inside_le L I i) e) i (closed_model P L I i s (least_closed (reduct P I))))

  pub reduct_is_here_there : answer p I ≡ here_there p I
  reduct_is_here_there = same_yes (answer p I) (here_there p I) to from
