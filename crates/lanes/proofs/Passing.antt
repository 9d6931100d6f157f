-- One turn of each loop of a pass, in one lane: a head atom, a row, all rows. Assumes nothing.
use mathlib.Core.Path.{◌≡◌, refl, sym, ap, ◌∙◌}
use mathlib.Core.Bool.{Bool, true, false, ◌&&◌, ◌||◌, not, cond, and-true, and_assoc, and_self_left, or-false, or_assoc}
use mathlib.Core.List.{List, [], ◌∷◌}
use Prim.Native.Nat.{ℕ, ◌-◌, ◌/◌, ◌≤◌, ◌<◌}
use lib.Bits.{bit_and, bit_or}
use lib.ListN.{get_or, length, set}
use Rattle.atoms.specs.Atoms.{has, insert}
use Rattle.atoms.proofs.Bits.{has_and, has_or, has_zero}
use Rattle.lpod.specs.Lists.{every, some}
use Rattle.lpod.specs.Rule.{Rule}
use Rattle.lpod.specs.Satisfied.{all_in, some_in, none_in, body_holds, satisfies, satisfies_all}
use Rattle.words.specs.Coded.{rule_in, head_length, head_digits, digits}
use Rattle.words.proofs.Places.{digits_length}
use Rattle.lanes.specs.Lanes.{column}
use Rattle.lanes.specs.Pass.{put, pass_row, pass, waits, adds, row_adds, grows}
use Rattle.lanes.proofs.Words.{full, has_not, has_full, has_column}
use Rattle.lanes.proofs.Columns.{put_column}
use Rattle.lanes.proofs.Closure.{put_none, adds_none}

-- ---- the digits of a row's head
pub head_start : (row k : ℕ) → k ≡ length (rule_in row).head → (rule_in row).head ≡ digits k (row / 1099511627776)
unfolding rule_in head_digits
head_start row k e = ap (λ (n : ℕ). digits n (row / 1099511627776)) (sym (e ∙ digits_length (head_length row) (row / 1099511627776)))

-- the lanes that fire and go on past an atom are those that go on and fire
past : (x f y : Bool) → ((x && f) && not y) ≡ ((x && not y) && f)
past true true true = refl
past true true false = refl
past true false true = refl
past true false false = refl
past false f y = refl

-- ---- the head: its first atom is a, whose word is y; x are the lanes in which no atom before it was, f those that fire
module _ {hs rest : List ℕ} {a : ℕ} (e : hs ≡ a ∷ rest) (w : List ℕ) (x y : ℕ) (ey : y ≡ get_or w a 0) (ky : y ≤ full) (j : ℕ) (l : j < 64) where
  word_is : has (column w j) a ≡ has y j
  word_is = has_column w j a ∙ ap (λ (z : ℕ). has z j) (sym ey)

  after : has (bit_and x (full - y)) j ≡ (has x j && not (has y j))
  after = has_and x (full - y) j ∙ ap (λ (q : Bool). has x j && q) (has_not y j ky l)

  -- the lanes of x and f into which a goes
  new : (f : ℕ) → has (bit_and (bit_and x f) y) j ≡ ((has x j && has f j) && has y j)
  new f = has_and (bit_and x f) y j ∙ ap (λ (q : Bool). q && has y j) (has_and x f j)

  pub head_turn : (has x j && none_in hs (column w j)) ≡ (has (bit_and x (full - y)) j && none_in rest (column w j))
  unfolding none_in some_in some
  head_turn = rw (e, word_is, after) (go (has x j) (has y j) (some (has (column w j)) rest))
    where
      go : (x y s : Bool) → (x && not (y || s)) ≡ ((x && not y) && not s)
      go true true s = refl
      go true false s = refl
      go false y s = refl

  pub put_turn : (f : ℕ) (cur out : List ℕ) → a < length cur → out ≡ set cur a (bit_or (get_or cur a 0) (bit_and (bit_and x f) y))
      → put hs (column w j) (has x j && has f j) (column cur j) ≡ put rest (column w j) (has (bit_and x (full - y)) j && has f j) (column out j)
  unfolding put
  put_turn f cur out k eo =
      rw (e, word_is, after, eo, put_column cur a (bit_and (bit_and x f) y) j k ((has x j && has f j) && has y j) (new f))
      (ap (λ (q : Bool). put rest (column w j) q (cond ((has x j && has f j) && has y j) (insert (column cur j) a) (column cur j))) (past (has x j) (has f j) (has y j)))

  -- z is the word of a in what is reached, and g the lanes in which something went in before
  pub adds_turn : (f g z : ℕ) (cur out : List ℕ) → a < length cur → z ≡ get_or cur a 0 → z ≤ full → out ≡ set cur a (bit_or (get_or cur a 0) (bit_and (bit_and x f) y))
      → (has g j || adds hs (column w j) (has x j && has f j) (column cur j))
      ≡ (has (bit_or g (bit_and (bit_and (bit_and x f) y) (full - z))) j || adds rest (column w j) (has (bit_and x (full - y)) j && has f j) (column out j))
  unfolding adds
  adds_turn f g z cur out k ez kz eo =
      rw (e, word_is, after, eo, put_column cur a (bit_and (bit_and x f) y) j k ((has x j && has f j) && has y j) (new f), has_or g (bit_and (bit_and (bit_and x f) y) (full - z)) j, has_and (bit_and (bit_and x f) y) (full - z) j, has_not z j kz l, new f, reached)
      (ap (λ (q : Bool). has g j || ((((has x j && has f j) && has y j) && not (has z j)) || adds rest (column w j) q (cond ((has x j && has f j) && has y j) (insert (column cur j) a) (column cur j))))
      (past (has x j) (has f j) (has y j))
      ∙ sym (or_assoc (has g j) (((has x j && has f j) && has y j) && not (has z j)) _))
    where
      reached : has (column cur j) a ≡ has z j
      reached = has_column cur j a ∙ ap (λ (v : ℕ). has v j) (sym ez)

pub head_end : {hs : List ℕ} → hs ≡ [] → (I : ℕ) (t : Bool) → (t && none_in hs I) ≡ t
unfolding none_in some_in some
head_end e I t = rw e (and-true t)

pub put_end : {hs : List ℕ} → hs ≡ [] → (I : ℕ) (t : Bool) (c : ℕ) → put hs I t c ≡ c
unfolding put
put_end e I t c = rw e

pub adds_end : {hs : List ℕ} → hs ≡ [] → (I : ℕ) (t g : Bool) (c : ℕ) → (g || adds hs I t c) ≡ g
unfolding adds
adds_end e I t g c = rw e (or-false g)

-- ---- one row: x are the lanes in which its body holds
module _ (r : Rule) (I c x j : ℕ) (ex : has x j ≡ body_holds r I) where
  -- in none of the block
  module _ (z : x ≡ 0) where
    out : body_holds r I ≡ false
    out = sym ex ∙ ap (λ (y : ℕ). has y j) z ∙ has_zero j

    pub idle_ok : j < 64 → has full j ≡ satisfies I r
    unfolding satisfies
    idle_ok l = rw out (has_full j l)

    pub idle_wait : has 0 j ≡ (body_holds r I && not (all_in r.pos c))
    idle_wait = rw out (has_zero j)

    pub idle_fire : c ≡ pass_row r I c
    unfolding pass_row
    idle_fire = rw out (sym (put_none r.head I c))

    pub idle_grow : has 0 j ≡ row_adds r I c
    unfolding row_adds
    idle_grow = rw out (has_zero j ∙ sym (adds_none r.head I c))

  module _ (l : j < 64) (f : ℕ) (kf : f ≤ full) (ef : has f j ≡ (has x j && all_in r.pos c)) where
    pub row_wait : has (bit_and x (full - f)) j ≡ (body_holds r I && not (all_in r.pos c))
    row_wait = has_and x (full - f) j ∙ rw (has_not f j kf l, ef, ex) (go (body_holds r I) (all_in r.pos c))
      where
        go : (b a : Bool) → (b && not (b && a)) ≡ (b && not a)
        go true a = refl
        go false a = refl

    -- v is the lane's set as the words have it
    module _ (v : ℕ) (ev : v ≡ I) where
      pub row_fire : (d : ℕ) → d ≡ put r.head v (has x j && has f j) c → d ≡ pass_row r I c
      unfolding pass_row
      row_fire d e = e ∙ rw (ev, ef, ex, and_self_left (body_holds r I) (all_in r.pos c))

      pub row_grow : (g : Bool) → g ≡ adds r.head v (has x j && has f j) c → g ≡ row_adds r I c
      unfolding row_adds
      row_grow g e = e ∙ rw (ev, ef, ex, and_self_left (body_holds r I) (all_in r.pos c))

      pub row_ok : (n : ℕ) → n ≤ full → has n j ≡ (has x j && none_in r.head v) → has (full - n) j ≡ satisfies I r
      unfolding satisfies none_in
      row_ok n kn en = has_not n j kn l ∙ rw (en, ev, ex) (go (body_holds r I) (some_in r.head I))
        where
          go : (b s : Bool) → not (b && not s) ≡ (not b || s)
          go true true = refl
          go true false = refl
          go false s = refl

-- ---- all rows: r is the next, and the pass goes on from d
module _ {P Q : List Rule} {r : Rule} (e : P ≡ r ∷ Q) (I j : ℕ) where
  pub ok_turn : (ok x : ℕ) → has x j ≡ satisfies I r → (has ok j && satisfies_all I P) ≡ (has (bit_and ok x) j && satisfies_all I Q)
  unfolding satisfies_all every
  ok_turn ok x ex = rw (e, has_and ok x j, ex) (sym (and_assoc (has ok j) (satisfies I r) (every (satisfies I) Q)))

  module _ (c d : ℕ) (ed : d ≡ pass_row r I c) where
    pub wait_turn : (wait x : ℕ) → has x j ≡ (body_holds r I && not (all_in r.pos c)) → (has wait j || waits P I c) ≡ (has (bit_or wait x) j || waits Q I d)
    unfolding waits
    wait_turn wait x ex = rw (e, has_or wait x j, ex, ed) (sym (or_assoc (has wait j) (body_holds r I && not (all_in r.pos c)) (waits Q I (pass_row r I c))))

    pub grow_turn : (grew x : ℕ) → has x j ≡ row_adds r I c → (has grew j || grows P I c) ≡ (has (bit_or grew x) j || grows Q I d)
    unfolding grows
    grow_turn grew x ex = rw (e, has_or grew x j, ex, ed) (sym (or_assoc (has grew j) (row_adds r I c) (grows Q I (pass_row r I c))))

    pub pass_turn : pass P I c ≡ pass Q I d
    unfolding pass
    pass_turn = rw (e, ed)

module _ {P : List Rule} (e : P ≡ []) (I : ℕ) where
  pub ok_end : (t : Bool) → (t && satisfies_all I P) ≡ t
  unfolding satisfies_all every
  ok_end t = rw e (and-true t)

  pub wait_end : (t : Bool) (c : ℕ) → (t || waits P I c) ≡ t
  unfolding waits
  wait_end t c = rw e (or-false t)

  pub grow_end : (t : Bool) (c : ℕ) → (t || grows P I c) ≡ t
  unfolding grows
  grow_end t c = rw e (or-false t)

  pub pass_end : (c : ℕ) → pass P I c ≡ c
  unfolding pass
  pass_end c = rw e
