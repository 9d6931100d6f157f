-- Rows that fire one after the other, each on what the rows before it made, reach the same least set as rows that fire together. What a pass reaches
-- stays inside every closed set, and what a pass leaves as it was is closed. Sixteen passes are enough, since each but the last adds an atom of the
-- set; and one pass is enough where no row had to wait. Assumes nothing.
use mathlib.Core.Path.{◌≡◌, refl, sym, ap, ◌∙◌, subst}
use mathlib.Core.Bool.{Bool, true, false, ◌&&◌, ◌||◌, not, cond}
use mathlib.Core.Logic.{◌⊎◌, inl, inr, ⊎_elim}
use mathlib.Core.List.Memᴰ
use mathlib.Core.List.{List, [], ◌∷◌, ◌++◌, Memᴰ}
use Prim.Native.Nat.{ℕ, ◌+◌, ◌^◌, ◌≤◌, ◌<◌}
use native.Mathlib.Omega.{arith}
use native.Mathlib.Decide.{ℕ_discrete}
use lib.Bits.{bit_and, bit_or}
use lib.Count.{ones-le}
use lib.Dec.{T}
use Rattle.atoms.specs.Atoms.{has, insert, Inside, how_many}
use Rattle.atoms.proofs.Truth.{and_l, or_l, or_r, or_cases, both, true_yes, false_no}
use Rattle.atoms.proofs.Bits.{has_and, has_or, in_insert, at_insert, of_insert, inside_both, inside_le}
use Rattle.atoms.proofs.Count.{many_more}
use Rattle.lpod.specs.Lists.{gather}
use Rattle.lpod.specs.Rule.{Rule, rules, raised, most_atoms}
use Rattle.lpod.specs.Satisfied.{all_in, none_in, body_holds}
use Rattle.lpod.specs.Reduct.{Definite, reduct_row, reduct}
use Rattle.lpod.specs.Least.{fire, least, Closed}
use Rattle.lpod.proofs.LeastClosed.{all_mono, fire_keeps, fire_adds, fire_inside, closed_fixed, fixed_closed, is_least}
use Rattle.lpod.proofs.FirstAtom.{first_in, ifs, row_first, row_of}
use Rattle.lpod.proofs.Firing.{fire_rules}
use Rattle.lpod.proofs.ReductIsHereThere.{self_closed}
use Rattle.lanes.specs.Pass.{put, pass_row, pass, waits, adds, row_adds, grows}

-- ---- one row
pub put_none : (hs : List ℕ) (I c : ℕ) → put hs I false c ≡ c
unfolding put
put_none [] I c = refl
put_none (h ∷ hs) I c = put_none hs I c

pub adds_none : (hs : List ℕ) (I c : ℕ) → adds hs I false c ≡ false
unfolding adds
adds_none [] I c = refl
adds_none (h ∷ hs) I c = adds_none hs I c

-- an atom that is there goes in for nothing
there : (c h : ℕ) → T (has c h) → insert c h ≡ c
there c h u = inside_both (insert c h) c (λ i x. ⊎_elim (λ y. y) (λ p. subst (λ (n : ℕ). T (has c n)) (sym p) u) (of_insert c h i x)) (in_insert c h)

-- the first head atom in I goes in where the body holds: this is what the row's rule of the reduct does
put_fires : (hs b : List ℕ) (I s c : ℕ) → put hs I (all_in b s) c ≡ fire (ifs (first_in hs I) b) s c
unfolding put fire ifs first_in
put_fires [] b I s c = refl
put_fires (h ∷ hs) b I s c = go (has I h) (all_in b s) refl (put_fires hs b I s c)
  where
    go : (m t : Bool) → all_in b s ≡ t → put hs I (all_in b s) c ≡ fire (ifs (first_in hs I) b) s c
        → put hs I (t && not m) (cond (t && m) (insert c h) c) ≡ fire (ifs (cond m (h ∷ []) (first_in hs I)) b) s c
    go true true e ih = put_none hs I (insert c h) ∙ ap (λ (q : Bool). cond q (insert c h) c) (sym e)
    go true false e ih = put_none hs I c ∙ ap (λ (q : Bool). cond q (insert c h) c) (sym e)
    go false true e ih = ap (λ (q : Bool). put hs I q c) (sym e) ∙ ih
    go false false e ih = ap (λ (q : Bool). put hs I q c) (sym e) ∙ ih

module _ (I : ℕ) where
  row_fires : (r : Rule) (c : ℕ) → Inside c I → pass_row r I c ≡ fire (reduct_row r I) c c
  unfolding pass_row body_holds fire
  row_fires r c f =
      go (all_in r.pos I) (none_in r.neg I) (all_in r.pos c) refl (all_mono r.pos c I f)
      ∙ ap (λ (D : List Definite). fire D c c) (sym (row_first r I))
    where
      same : (t : Bool) → all_in r.pos c ≡ t → put r.head I t c ≡ fire (ifs (first_in r.head I) r.pos) c c
      same t e = ap (λ (q : Bool). put r.head I q c) (sym e) ∙ put_fires r.head r.pos I c c

      go : (p n t : Bool) → all_in r.pos c ≡ t → (T (all_in r.pos c) → T p)
          → put r.head I ((p && n) && t) c ≡ fire (cond n (ifs (first_in r.head I) r.pos) []) c c
      go true true t e m = same t e
      go true false t e m = put_none r.head I c
      go false true true e m = absurd (m (subst T (sym e) tt))
      go false true false e m = same false e
      go false false t e m = put_none r.head I c

  -- ---- a pass, from a set inside I
  row_inside : (r : Rule) (c k : ℕ) → Closed (reduct_row r I) k → Inside c I → Inside c k → Inside (pass_row r I c) k
  row_inside r c k q f g = subst (λ (x : ℕ). Inside x k) (sym (row_fires r c f)) (fire_inside (reduct_row r I) c c k q g g)

  row_within : (r : Rule) (c : ℕ) → Inside c I → Inside (pass_row r I c) I
  row_within r c f = row_inside r c I (λ d m t. (row_of r I d m).1) f f

  pub pass_inside : (P : List Rule) (c k : ℕ) → Closed (reduct P I) k → Inside c I → Inside c k → Inside (pass P I c) k
  unfolding pass reduct gather
  pass_inside [] c k q f g = g
  pass_inside (r ∷ P) c k q f g =
      pass_inside P (pass_row r I c) k (λ d m. q d (Memᴰ.append_right (reduct_row r I) m)) (row_within r c f)
      (row_inside r c k (λ d m. q d (Memᴰ.append_left (reduct P I) m)) f g)

  row_keeps : (r : Rule) (c : ℕ) → Inside c I → Inside c (pass_row r I c)
  row_keeps r c f = subst (λ (x : ℕ). Inside c x) (sym (row_fires r c f)) (fire_keeps (reduct_row r I) c c)

  pub pass_keeps : (P : List Rule) (c : ℕ) → Inside c I → Inside c (pass P I c)
  unfolding pass
  pass_keeps [] c f i h = h
  pass_keeps (r ∷ P) c f i h = pass_keeps P (pass_row r I c) (row_within r c f) i (row_keeps r c f i h)

  pass_adds : (P : List Rule) (c : ℕ) → Inside c I → (d : Definite) → Memᴰ d (reduct P I) → T (all_in d.body c) → T (has (pass P I c) d.atom)
  unfolding pass reduct gather
  pass_adds [] c f d m t = elim m [ ]
  pass_adds (r ∷ P) c f d m t =
      ⊎_elim
      (λ n. pass_keeps P (pass_row r I c) (row_within r c f) d.atom (subst (λ (x : ℕ). T (has x d.atom)) (sym (row_fires r c f)) (fire_adds (reduct_row r I) c c d n t)))
      (λ n. pass_adds P (pass_row r I c) (row_within r c f) d n (all_mono d.body c (pass_row r I c) (row_keeps r c f) t))
      (Memᴰ.append_cases (reduct_row r I) m)

-- ---- a pass in which nothing goes in leaves what is reached
put_same : (hs : List ℕ) (I : ℕ) (t : Bool) (c : ℕ) → adds hs I t c ≡ false → put hs I t c ≡ c
unfolding put adds
put_same [] I t c e = refl
put_same (h ∷ hs) I t c e = go (has I h) t (has c h) refl e (put_same hs I)
  where
    go : (m t b : Bool) → has c h ≡ b → (((t && m) && not b) || adds hs I (t && not m) (cond (t && m) (insert c h) c)) ≡ false
        → ((t : Bool) (c : ℕ) → adds hs I t c ≡ false → put hs I t c ≡ c) → put hs I (t && not m) (cond (t && m) (insert c h) c) ≡ c
    go true true true q e ih = put_none hs I (insert c h) ∙ there c h (true_yes q)
    go true true false q e ih = absurd (false_no e tt)
    go true false b q e ih = put_none hs I c
    go false true b q e ih = ih true c e
    go false false b q e ih = put_none hs I c

pub pass_same : (P : List Rule) (I c : ℕ) → grows P I c ≡ false → pass P I c ≡ c
unfolding pass pass_row grows row_adds
pass_same [] I c e = refl
pass_same (r ∷ P) I c e = go _ _ e (put_same r.head I (body_holds r I && all_in r.pos c) c) (pass_same P I (pass_row r I c))
  where
    go : (a g : Bool) → (a || g) ≡ false → (a ≡ false → pass_row r I c ≡ c) → (g ≡ false → pass P I (pass_row r I c) ≡ pass_row r I c) → pass P I (pass_row r I c) ≡ c
    go true g e f k = absurd (false_no e tt)
    go false g e f k = k e ∙ f refl

-- ---- where no row waits, each whose body holds has its atom in, and a further pass adds nothing
put_again : (hs : List ℕ) (I : ℕ) (t : Bool) (c e : ℕ) → Inside (put hs I true c) e → put hs I t e ≡ e
unfolding put
put_again [] I t c e f = refl
put_again (h ∷ hs) I t c e f = go (has I h) t f (put_again hs I)
  where
    go : (m t : Bool) → Inside (put hs I (not m) (cond m (insert c h) c)) e → ((t : Bool) (c e : ℕ) → Inside (put hs I true c) e → put hs I t e ≡ e)
        → put hs I (t && not m) (cond (t && m) (insert e h) e) ≡ e
    go true true f ih = put_none hs I (insert e h) ∙ there e h (f h (subst (λ (x : ℕ). T (has x h)) (sym (put_none hs I (insert c h))) (at_insert c h)))
    go true false f ih = put_none hs I e
    go false true f ih = ih true c e f
    go false false f ih = put_none hs I e

row_again : (r : Rule) (I c e : ℕ) → (T (body_holds r I && not (all_in r.pos c)) → ⊥) → Inside (pass_row r I c) e → pass_row r I e ≡ e
unfolding pass_row
row_again r I c e n f = go (body_holds r I) (all_in r.pos c) n f
  where
    go : (b t : Bool) → (T (b && not t) → ⊥) → Inside (put r.head I (b && t) c) e → put r.head I (b && all_in r.pos e) e ≡ e
    go true true n f = put_again r.head I (all_in r.pos e) c e f
    go true false n f = absurd (n tt)
    go false t n f = put_none r.head I e

pub pass_again : (P : List Rule) (I c e : ℕ) → Inside c I → (T (waits P I c) → ⊥) → Inside (pass P I c) e → pass P I e ≡ e
unfolding pass waits
pass_again [] I c e f n g = refl
pass_again (r ∷ P) I c e f n g =
    ap (pass P I) (row_again r I c e (λ t. n (or_l (body_holds r I && not (all_in r.pos c)) _ t)) (λ i h. g i (pass_keeps I P (pass_row r I c) (row_within I r c f) i h)))
    ∙ pass_again P I (pass_row r I c) e (row_within I r c f) (λ t. n (or_r (body_holds r I && not (all_in r.pos c)) _ t)) g

-- ---- n passes from the raised atoms f, where the set holds these, have come to c
module _ (P : List Rule) (f I : ℕ) where
  abbrev D : List Definite
  D = reduct (P ++ raised f) I

  pub record Come (n c : ℕ) : Type 0 where
    pub flags : Inside f c
    pub small : (k : ℕ) → Closed D k → Inside c k
    pub far : (pass P I c ≡ c) ⊎ (n ≤ how_many c)

  come_within : {n c : ℕ} → Come n c → Inside c I
  come_within m = m.small I (self_closed (P ++ raised f) I)

  module _ (w : f < 2 ^ 16) where
    -- a round of all rules: the rows, and the raised atoms that the set holds
    round : (k : ℕ) → fire D k k ≡ bit_or (fire (reduct P I) k k) (bit_and f I)
    unfolding rules
    round k = sym (fire_rules (record { atoms = most_atoms; rows = P; pairs = []; flags = f }) I k k (fire (reduct P I) k k) w refl)

    -- so a closed set is closed under the rows, and holds those atoms
    module _ (k : ℕ) (q : Closed D k) where
      fixed : (i : ℕ) → T (has (fire (reduct P I) k k) i) ⊎ T (has f i && has I i) → T (has k i)
      fixed i t =
          subst (λ (x : ℕ). T (has x i)) (sym (round k) ∙ closed_fixed D k q)
          (subst T (sym (has_or (fire (reduct P I) k k) (bit_and f I) i))
          (⊎_elim (λ a. or_l (has (fire (reduct P I) k k) i) (has (bit_and f I) i) a)
          (λ a. or_r (has (fire (reduct P I) k k) i) (has (bit_and f I) i) (subst T (sym (has_and f I i)) a)) t))

      rows_closed : Closed (reduct P I) k
      rows_closed d m t = fixed d.atom (inl (fire_adds (reduct P I) k k d m t))

      flags_closed : Inside f I → Inside f k
      flags_closed g i t = fixed i (inr (both (has f i) (has I i) t (g i t)))

    -- and the other way about
    all_closed : (c : ℕ) → Closed (reduct P I) c → Inside f c → Closed D c
    all_closed c q g = fixed_closed D c (round c ∙ ap (λ (x : ℕ). bit_or x (bit_and f I)) (closed_fixed (reduct P I) c q) ∙ inside_both _ c to from)
      where
        to : Inside (bit_or c (bit_and f I)) c
        to i t =
            ⊎_elim (λ a. a) (λ a. g i (and_l (has f i) (has I i) (subst T (has_and f I i) a)))
            (or_cases (has c i) (has (bit_and f I) i) (subst T (has_or c (bit_and f I) i) t))

        from : Inside c (bit_or c (bit_and f I))
        from i t = subst T (sym (has_or c (bit_and f I) i)) (or_l (has c i) (has (bit_and f I) i) t)

    pub come_start : Inside f I → Come 0 f
    come_start g = record { flags = λ i h. h; small = λ k q. flags_closed k q g; far = inr (omega arith) }

    module _ {n c : ℕ} (m : Come n c) where
      more : (pass P I c ≡ c → ⊥) → how_many c < how_many (pass P I c)
      more d = many_more c (pass P I c) (pass_keeps I P c (come_within m)) (λ e. d (sym e))

      pub come_next : Come (n + 1) (pass P I c)
      come_next =
          record {
            flags = λ i h. pass_keeps I P c (come_within m) i (m.flags i h);
            small = λ k q. pass_inside I P c k (rows_closed k q) (come_within m) (m.small k q);
            far = go (ℕ_discrete (pass P I c) c) m.far;
          }
        where
          go : Dec (pass P I c ≡ c) → (pass P I c ≡ c) ⊎ (n ≤ how_many c) → (pass P I (pass P I c) ≡ pass P I c) ⊎ (n + 1 ≤ how_many (pass P I c))
          go (yes e) l = inl (ap (pass P I) e)
          go (no d) l = ⊎_elim (λ e. absurd (d e)) (λ l. inr (let g = more d in omega arith)) l

      -- a pass that would add nothing: this is the least set
      pub come_least : pass P I c ≡ c → least D ≡ c
      come_least e =
          (is_least D c).1
          (record {
            itself = all_closed c (λ d i t. subst (λ (x : ℕ). T (has x d.atom)) e (pass_adds I P c (come_within m) d i t)) m.flags;
            smallest = m.small;
          })

      -- so it is where it is the whole set, and after sixteen passes
      pub come_whole : c ≡ I → least D ≡ c
      come_whole e = (is_least D c).1 (record { itself = subst (Closed D) (sym e) (self_closed (P ++ raised f) I); smallest = m.small })

      pub come_end : I < 2 ^ 16 → 16 ≤ n → least D ≡ c
      come_end b l = ⊎_elim come_least (λ h. go (ℕ_discrete (pass P I c) c) h) m.far
        where
          go : Dec (pass P I c ≡ c) → n ≤ how_many c → least D ≡ c
          go (yes e) h = come_least e
          go (no d) h =
              let g = more d in
              let k = inside_le (pass P I c) I (pass_inside I P c I (self_closed P I) (come_within m) (come_within m)) in
              absurd (omega (arith, ones-le 16 (pass P I c) (omega arith)))

    pub come_later : (n k c d : ℕ) → k ≡ n + 1 → d ≡ pass P I c → Come n c → Come k d
    come_later n k c d e q m = rw (e, q) (come_next m)

    -- what a pass comes to is the least set where no row waited in it, and where it added nothing
    module _ {n c : ℕ} (m : Come n c) where
      pub come_unwaited : (T (waits P I c) → ⊥) → least D ≡ pass P I c
      come_unwaited g = come_least (come_next m) (pass_again P I c (pass P I c) (come_within m) g (λ i h. h))

      pub come_same : grows P I c ≡ false → least D ≡ pass P I c
      come_same e = let s = pass_same P I c e in come_least m s ∙ sym s
