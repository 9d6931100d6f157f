-- The answer sets of a block, in one lane: a pair; and what a pass settles. Where it has come to the lane's set, or no row waited in it, or it added
-- nothing, it has come to the least set. Assumes nothing.
use mathlib.Core.Path.{◌≡◌, refl, sym, ap, ◌∙◌, subst}
use mathlib.Core.Bool.{Bool, true, false, ◌&&◌, ◌||◌, not, and-true, and_assoc}
use mathlib.Core.List.{List, [], ◌∷◌, ◌++◌}
use Prim.Native.Nat.{ℕ, ◌+◌, ◌-◌, ◌^◌, ◌≤◌, ◌<◌}
use native.Mathlib.Omega.{arith}
use lib.Bits.{bit_and}
use borrow.Author.Tests.{ne_eqb}
use lib.Dec.{T, eqb, eqb→eq}
use Rattle.atoms.specs.Atoms.{has, inside}
use Rattle.atoms.proofs.Truth.{and_l, true_yes, false_no, yes_true}
use Rattle.atoms.proofs.Bits.{has_zero, has_and, test_inside}
use Rattle.lpod.specs.Lists.{every}
use Rattle.lpod.specs.Rule.{Rule, Pair, raised, rules}
use Rattle.lpod.specs.Satisfied.{satisfies, satisfies_all, no_pair}
use Rattle.lpod.specs.Reduct.{reduct}
use Rattle.lpod.specs.Least.{least}
use Rattle.lpod.specs.Answer.{answer}
use Rattle.lpod.proofs.Lists.{every_append, every_made}
use Rattle.lpod.proofs.Between.{row_raised, fact_satisfied}
use Rattle.words.specs.Coded.{rules_in, rules_with, pairs_in, program_in}
use Rattle.lanes.specs.Pass.{pass, waits, grows}
use Rattle.lanes.proofs.Words.{full, has_not}
use Rattle.lanes.proofs.Closure.{Come, come_next, come_whole, come_unwaited, come_same, come_end}

-- ---- one pair: z are the lanes that hold both of its atoms
pub pair_turn : {Q R : List Pair} {q : Pair} → Q ≡ q ∷ R → (s ok z j : ℕ) → j < 64 → z ≤ full → has z j ≡ (has s q.one && has s q.other)
    → (has ok j && no_pair Q s) ≡ (has (bit_and ok (full - z)) j && no_pair R s)
unfolding no_pair every
pair_turn {Q} {R} e s ok z j l k ez =
    rw (e, ← ez) (sym (and_assoc (has ok j) (not (has z j)) (no_pair R s))) ∙ ap (λ (b : Bool). b && no_pair R s) (sym (has_and ok (full - z) j ∙ ap (λ (b : Bool). has ok j && b) (has_not z j k l)))

pub pair_end : {Q : List Pair} → Q ≡ [] → (s : ℕ) (t : Bool) → (t && no_pair Q s) ≡ t
unfolding no_pair every
pair_end e s t = rw e (and-true t)

-- ---- the lanes that are in: those of x, and after the first pass those whose set satisfies the rows
module _ (P : List Rule) (I : ℕ) (x : Bool) where
  abbrev pub Kept : ℕ → Bool → Type 0
  Kept passes ok = ok ≡ (x && (eqb passes 0 || satisfies_all I P))

  pub kept_start : Kept 0 x
  kept_start = sym (and-true x)

  pub kept_turn : (passes ok p j : ℕ) → Kept passes (has ok j) → has p j ≡ satisfies_all I P → has (bit_and ok p) j ≡ (x && satisfies_all I P)
  kept_turn passes ok p j e q = has_and ok p j ∙ rw (e, q) (go x (eqb passes 0) (satisfies_all I P))
    where
      go : (x e s : Bool) → ((x && (e || s)) && s) ≡ (x && s)
      go true true s = refl
      go true false true = refl
      go true false false = refl
      go false e s = refl

  pub kept_later : (passes : ℕ) → (0 < passes) → (ok : Bool) → ok ≡ (x && satisfies_all I P) → Kept passes ok
  kept_later passes l ok e = rw (ne_eqb passes 0 (λ q. omega arith)) e

  pub kept_end : (passes : ℕ) → 0 < passes → (ok : Bool) → Kept passes ok → ok ≡ (x && satisfies_all I P)
  kept_end passes l ok e = e ∙ rw (ne_eqb passes 0 (λ q. omega arith))

-- ---- a lane is right if it says so where the rows are satisfied and the set is the least. It may be told
module _ (P : List Rule) (f I : ℕ) (x ok : Bool) (e : ok ≡ (x && satisfies_all I P)) where
  abbrev L : ℕ
  L = least (reduct (P ++ raised f) I)

  abbrev Right : Bool → Type 0
  Right r = r ≡ (x && (satisfies_all I P && eqb L I))

  -- where it is out
  pub right_none : ok ≡ false → Right false
  right_none z = go x (satisfies_all I P) (sym e ∙ z)
    where
      go : (x s : Bool) → (x && s) ≡ false → false ≡ (x && (s && eqb L I))
      go true true q = absurd (false_no q tt)
      go true false q = refl
      go false s q = refl

  -- where what is reached is the least set
  pub right_least : (d : ℕ) → (T ok → L ≡ d) → Right (ok && eqb d I)
  right_least d g = rw e (go x (satisfies_all I P) (λ t. g (subst T (sym e) t)))
    where
      go : (x s : Bool) → (T (x && s) → L ≡ d) → ((x && s) && eqb d I) ≡ (x && (s && eqb L I))
      go true true g = ap (λ (n : ℕ). eqb n I) (sym (g tt))
      go true false g = refl
      go false s g = refl

  -- where a pass from c has come to d, and d is the set, or v is not set and nothing more can come
  module _ (w : f < 2 ^ 16) (n c d : ℕ) (m : T x → Come P f I n c) (made : d ≡ pass P I c) where
    settled : (v : Bool) → (T x → v ≡ false → L ≡ d) → ((ok && not (eqb d I)) && v) ≡ false → Right (ok && eqb d I)
    settled v g z =
        right_least d (λ t. go (eqb d I) refl (and_l x (satisfies_all I P) (subst T e t)) (sym (ap (λ (b : Bool). (b && not (eqb d I)) && v) (yes_true ok t)) ∙ z))
      where
        go : (q : Bool) → eqb d I ≡ q → T x → (not (eqb d I) && v) ≡ false → L ≡ d
        go true q t z = come_whole P f I w (subst (Come P f I (n + 1)) (sym made) (come_next P f I w (m t))) (eqb→eq d I (true_yes q))
        go false q t z = g t (sym (ap (λ (b : Bool). not b && v) q) ∙ z)

    -- since no row waited, or the pass added nothing
    pub right_stopped : (v g : Bool) → v ≡ waits P I c → g ≡ grows P I c → ((ok && not (eqb d I)) && (v && g)) ≡ false → Right (ok && eqb d I)
    right_stopped v g ev eg = settled (v && g) (λ t z. go v g ev eg z t)
      where
        go : (v g : Bool) → v ≡ waits P I c → g ≡ grows P I c → (v && g) ≡ false → T x → L ≡ d
        go true g ev eg z t = come_same P f I w (m t) (sym eg ∙ z) ∙ sym made
        go false g ev eg z t = come_unwaited P f I w (m t) (false_no (sym ev)) ∙ sym made

-- ---- the same in words, as the code tells it: `there` are the lanes that are there, v the set of lane j as the words have it
module _ (P : List Rule) (f I j : ℕ) (l : j < 64) (x ok there : ℕ) (e : has ok j ≡ (has x j && satisfies_all I P)) (c d v : ℕ) (k : there ≤ full) (et : has there j ≡ eqb d v) (ev : v ≡ I) where
  abbrev Told : Type 0
  Told = has (bit_and ok there) j ≡ (has x j && (satisfies_all I P && eqb (least (reduct (P ++ raised f) I)) I))

  there_is : has there j ≡ eqb d I
  there_is = et ∙ ap (eqb d) ev

  told : (has ok j && eqb d I) ≡ (has x j && (satisfies_all I P && eqb (least (reduct (P ++ raised f) I)) I)) → Told
  told q = has_and ok there j ∙ ap (λ (b : Bool). has ok j && b) there_is ∙ q

  -- no lane that is in and not there is one of u and one of v
  none_open : (u v : ℕ) → bit_and (bit_and (bit_and ok (full - there)) u) v ≡ 0 → ((has ok j && not (eqb d I)) && (has u j && has v j)) ≡ false
  none_open u v z =
      rw (← there_is, ← has_not there j k l, ← has_and ok (full - there) j, ← and_assoc (has (bit_and ok (full - there)) j) (has u j) (has v j), ← has_and (bit_and ok (full - there)) u j, ← has_and (bit_and (bit_and ok (full - there)) u) v j, z)
      (has_zero j)

  module _ (w : f < 2 ^ 16) (n : ℕ) (m : T (has x j) → Come P f I n c) where
    pub stop : d ≡ pass P I c → (wait grew : ℕ) → has wait j ≡ waits P I c → has grew j ≡ grows P I c → bit_and (bit_and (bit_and ok (full - there)) wait) grew ≡ 0 → Told
    stop made wait grew ew eg z = told (right_stopped P f I (has x j) (has ok j) e w n c d m made (has wait j) (has grew j) ew eg (none_open wait grew z))

    -- after sixteen passes
    pub stop_end : d ≡ c → I < 2 ^ 16 → 16 ≤ n → Told
    stop_end same b h = told (right_least P f I (has x j) (has ok j) e d (λ t. come_end P f I w (m (and_l (has x j) (satisfies_all I P) (subst T e t))) b h ∙ sym same))

-- ---- the whole: where the set holds the raised atoms, their rows are satisfied
raised_satisfied : (P : List Rule) (f I : ℕ) → T (inside f I) → satisfies_all I (P ++ raised f) ≡ satisfies_all I P
unfolding satisfies_all
raised_satisfied P f I t =
    every_append (satisfies I) P (raised f) ∙ ap (λ (b : Bool). every (satisfies I) P && b) (yes_true (every (satisfies I) (raised f)) flags) ∙ and-true (every (satisfies I) P)
  where
    flags : T (every (satisfies I) (raised f))
    flags =
        every_made (satisfies I) (raised f)
        (λ r m. let a = row_raised f r m in subst (λ (r : Rule). T (satisfies I r)) (sym a.1.0) (subst T (sym (fact_satisfied I a.0)) (test_inside f I t a.0 a.1.1)))

-- ok is the lane after the pairs, and v its set as the words have it
module _ (rows pairs : List ℕ) (f I : ℕ) (x ok : Bool) (v : ℕ) (ev : v ≡ I) (e : ok ≡ (x && no_pair (pairs_in pairs) v)) where
  abbrev P : List Rule
  P = rules_in rows ++ raised f

  pub answer_none : ok ≡ false → false ≡ (x && answer (program_in rows pairs f) I)
  unfolding answer program_in
  answer_none z = go x (no_pair (pairs_in pairs) I) _ (rw (← ev) (sym e ∙ z))
    where
      go : (x q b : Bool) → (x && q) ≡ false → false ≡ (x && (q && b))
      go true true b e = absurd (false_no e tt)
      go true false b e = refl
      go false q b e = refl

  pub answer_lane : (T x → T (inside f I)) → (r : Bool) → r ≡ (ok && (satisfies_all I (rules_in rows) && eqb (least (reduct (rules_with rows f) I)) I))
      → r ≡ (x && answer (program_in rows pairs f) I)
  unfolding answer program_in rules rules_with
  answer_lane g r er = er ∙ rw (e, ev) (go x (no_pair (pairs_in pairs) I) g)
    where
      go : (x q : Bool) → (T x → T (inside f I)) → ((x && q) && (satisfies_all I (rules_in rows) && eqb (least (reduct P I)) I)) ≡ (x && (q && (satisfies_all I P && eqb (least (reduct P I)) I)))
      go true q g = ap (λ (b : Bool). q && (b && eqb (least (reduct P I)) I)) (sym (raised_satisfied (rules_in rows) f I (g tt)))
      go false q g = refl
