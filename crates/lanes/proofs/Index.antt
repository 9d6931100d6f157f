-- The index of the marked sets: made block by block, used to pass over a block, and kept where marks are lost; and the lanes of a block in which sets
-- are compared with one of them. Assumes nothing.
use mathlib.Core.Path.{◌≡◌, refl, sym, ap, ◌∙◌, subst}
use mathlib.Core.Bool.{Bool, true, false, ◌&&◌, not, and-true}
use mathlib.Core.List.{List}
use Prim.Native.Nat.{ℕ, ◌+◌, ◌-◌, ◌*◌, ◌/◌, ◌%◌, ◌^◌, ◌≤◌, ◌<◌}
use native.Mathlib.Nat.{lt_of_not-le, one-mul}
use native.Mathlib.Decide.{ℕ_discrete, dec_lt}
use native.Mathlib.Omega.{arith}
use lib.Bits.{bit_and}
use lib.Dec.{T, eqb, eqb→eq}
use lib.ListN.{length, get_or, set}
use lib.Pow.{shl_exact, pow_pos}
use lib.Seq.{get_or-set_same, get_or-set_other}
use borrow.Author.Tests.{eq-eqb, ne_eqb}
use Rattle.atoms.specs.Atoms.{has, inside}
use Rattle.atoms.proofs.Truth.{and_l, and_r, no_false, true_yes, false_no, same_yes}
use Rattle.atoms.proofs.Bits.{has_and, has_zero, has_single}
use Rattle.lpod.specs.Degree.{degree}
use Rattle.words.specs.Coded.{rule_in}
use Rattle.lanes.specs.Lanes.{Says}
use Rattle.lanes.specs.Marks.{marked, Within}
use Rattle.lanes.specs.Rank.{over, Grades}
use Rattle.lanes.specs.Left.{Index, Searched, rival}
use Rattle.lanes.specs.declared.ranking.Ranking.{Ranking}
use Rattle.lanes.proofs.Marked.{marked_at, marked_past, none_before, none_to, within_fewer}
use Rattle.lanes.proofs.Words.{full, has_complement, has_not}
use Rattle.lanes.proofs.RankedRows.{over_irreflexive}
use Rattle.lanes.proofs.FirstRows.{FirstTo, FirstsTo, skip, none_over}

-- ---- made block by block: it is right below block d
abbrev pub IndexTo : List ℕ → List ℕ → List ℕ → ℕ → Type 0
IndexTo rows index marks d =
    (b n j : ℕ) → b < d → n < length rows → j < 64 → T (has (get_or marks b 0) j) → degree (64 * b + j) (rule_in (get_or rows n 0)) ≡ 1 → T (has (get_or index b 0) n)

module _ (rows index marks : List ℕ) (low high : ℕ) (w : Within marks low high) where
  pub index_first : IndexTo rows index marks low
  index_first b n j l h k t e =
      absurd (none_before marks low high w (64 * b + j) (omega arith) (omega arith) (subst T (sym (marked_at marks b j k)) t))

  -- x is right for block b, and c is the next that lies between
  pub index_more : (b c x : ℕ) → b < length index → IndexTo rows index marks b → FirstsTo rows b (get_or marks b 0) (length rows) x → b < c
      → ((d : ℕ) → b < d → d < c → T (inside low d) → T (inside d high) → ⊥) → IndexTo rows (set index b x) marks c
  index_more b c x fit f g l p a n j h m k t e = go (ℕ_discrete a b) (dec_lt a b)
    where
      go : Dec (a ≡ b) → Dec (a < b) → T (has (get_or (set index b x) a 0) n)
      go (yes z) d =
          let t' : T (has (get_or marks b 0) j) = subst (λ (i : ℕ). T (has (get_or marks i 0) j)) z t in
          let e' : degree (64 * b + j) (rule_in (get_or rows n 0)) ≡ 1 = subst (λ (i : ℕ). degree (64 * i + j) (rule_in (get_or rows n 0)) ≡ 1) z e in
          subst (λ (y : ℕ). T (has y n)) (sym (ap (λ (i : ℕ). get_or (set index b x) i 0) z ∙ get_or-set_same index b x 0 fit)) (g n j m k t' e')
      go (no z) (yes d) = subst (λ (y : ℕ). T (has y n)) (sym (get_or-set_other index b a x 0 z)) (f a n j d m k t e)
      go (no z) (no d) =
          absurd (none_to marks low high w b c p (64 * a + j) (omega arith) (omega arith) (subst T (sym (marked_at marks a j k)) t))

pub index_all : (rows index marks : List ℕ) (d : ℕ) → length marks ≤ d → IndexTo rows index marks d → Index rows index marks
index_all rows index marks d h f b n j l = f b n j (omega arith)

-- one block only: all ones
pub index_full : (rows index marks : List ℕ) → length rows ≤ 32 → length marks ≡ 1 → 0 < length index → Index rows (set index 0 4294967295) marks
index_full rows index marks h e l b n j lb ln lj t d =
    let z : b ≡ 0 = omega arith in
    true_yes (ap (λ (i : ℕ). has (get_or (set index 0 4294967295) i 0) n) z ∙ ap (λ (x : ℕ). has x n) (get_or-set_same index 0 4294967295 0 l)
    ∙ has_complement 32 0 n (omega arith) (omega arith) ∙ ap not (has_zero n))

-- ---- marks that are lost change nothing
index_fewer : (rows index marks fewer : List ℕ) → length fewer ≡ length marks → ((s : ℕ) → T (marked fewer s) → T (marked marks s)) → Index rows index marks → Index rows index fewer
index_fewer rows index marks fewer q f g b n j l m k t e =
    g b n j (omega arith) m k (subst T (marked_at marks b j k) (f (64 * b + j) (subst T (sym (marked_at fewer b j k)) t))) e

pub searched_left : (ranking : Ranking) (marks fewer : List ℕ) → length fewer ≡ length marks → ((s : ℕ) → T (marked fewer s) → T (marked marks s))
    → Searched ranking marks → Searched ranking fewer
searched_left ranking marks fewer q f h = record {
  few = omega (arith, q, h.few);
  fit = omega (arith, q, h.fit);
  start = omega (arith, q, h.start);
  between = within_fewer marks ranking.span.low ranking.span.high h.between fewer f;
  firsts = index_fewer ranking.rules.rows.now ranking.index.now marks fewer q f h.firsts;
}

-- ---- the lanes of a block that are marked and preferred to M
module _ (rows marks : List ℕ) (b M : ℕ) where
  rival_says : (x : ℕ) → ((j : ℕ) → j < 64 → has x j ≡ (has (get_or marks b 0) j && over rows (64 * b + j) M)) → Says b x (rival (over rows) marks M)
  rival_says x f j l = f j l ∙ ap (λ (a : Bool). a && over rows (64 * b + j) M) (sym (marked_at marks b j l))

  -- the rows of degree 1 are no part of the index word
  pub none_first : (grades index : List ℕ) (first : ℕ) → Grades rows grades M → FirstTo grades (length rows) first → Index rows index marks → b < length marks
      → (bit_and first (get_or index b 0) ≡ first → ⊥) → Says b 0 (rival (over rows) marks M)
  unfolding inside
  none_first grades index first g f i l n =
      rival_says 0 (λ j k. has_zero j ∙ sym (no_false (has (get_or marks b 0) j && over rows (64 * b + j) M) (λ t.
      false_no (skip rows grades M g first f b (get_or marks b 0) (get_or index b 0) (λ m j h. i b m j l h) (λ u. n (eqb→eq (bit_and first (get_or index b 0)) first u)) j k
      (and_l (has (get_or marks b 0) j) (over rows (64 * b + j) M) t)) (and_r (has (get_or marks b 0) j) (over rows (64 * b + j) M) t))))

-- ---- all lanes of a block but m's own
module _ (among b m j : ℕ) (l : j < 64) where
  -- m stands in another block, or in this one
  pub others_all : (m / 64 ≡ b → ⊥) → has among j ≡ (has among j && not (eqb (64 * b + j) m))
  others_all n = sym (ap (λ (c : Bool). has among j && not c) (ne_eqb (64 * b + j) m (λ e. n (omega arith))) ∙ and-true (has among j))

  pub others_but : m / 64 ≡ b → has (bit_and among (full - 1 * 2 ^ (m % 64) % 18446744073709551616)) j ≡ (has among j && not (eqb (64 * b + j) m))
  others_but e =
      has_and among (full - 1 * 2 ^ (m % 64) % 18446744073709551616) j
      ∙ ap (λ (c : Bool). has among j && c)
      (has_not (1 * 2 ^ (m % 64) % 18446744073709551616) j (omega arith) l
      ∙ ap (λ (x : ℕ). not (has x j)) (shl_exact 1 (m % 64) 64 (omega arith) (omega arith) ∙ one-mul (2 ^ (m % 64)))
      ∙ ap not (has_single (m % 64) j ∙ same_yes (eqb j (m % 64)) (eqb (64 * b + j) m)
      (λ t. let q = eqb→eq j (m % 64) t in true_yes (eq-eqb (64 * b + j) m (omega arith)))
      (λ t. let q = eqb→eq (64 * b + j) m t in true_yes (eq-eqb j (m % 64) (omega arith)))))

-- no set is preferred to itself: so its own lane may be left out
module _ (rows marks : List ℕ) (b m rest : ℕ) (e : (j : ℕ) → j < 64 → has rest j ≡ (has (get_or marks b 0) j && not (eqb (64 * b + j) m))) where
  others_over : (j : ℕ) → j < 64 → (has rest j && over rows (64 * b + j) m) ≡ (has (get_or marks b 0) j && over rows (64 * b + j) m)
  others_over j l = ap (λ (c : Bool). c && over rows (64 * b + j) m) (e j l) ∙ go (has (get_or marks b 0) j) (eqb (64 * b + j) m) refl
    where
      go : (a d : Bool) → eqb (64 * b + j) m ≡ d → ((a && not d) && over rows (64 * b + j) m) ≡ (a && over rows (64 * b + j) m)
      go false d q = refl
      go true true q =
          sym (no_false (over rows (64 * b + j) m) (λ t. over_irreflexive rows m (subst (λ (s : ℕ). T (over rows s m)) (eqb→eq (64 * b + j) m (true_yes q)) t)))
      go true false q = refl

  pub some_others : (x : ℕ) → ((j : ℕ) → j < 64 → has x j ≡ (has rest j && over rows (64 * b + j) m)) → Says b x (rival (over rows) marks m)
  some_others x f = rival_says rows marks b m x (λ j l. f j l ∙ others_over j l)

  pub none_others : rest ≡ 0 → Says b 0 (rival (over rows) marks m)
  none_others z = some_others 0 (λ j l. has_zero j ∙ sym (ap (λ (c : Bool). c && over rows (64 * b + j) m) (ap (λ (y : ℕ). has y j) z ∙ has_zero j)))

-- w is the word of s's block without s
pub unmarked : (marks : List ℕ) (s w : ℕ) → s / 64 < length marks → ((j : ℕ) → j < 64 → has w j ≡ (has (get_or marks (s / 64) 0) j && not (eqb (64 * (s / 64) + j) s)))
    → (x : ℕ) → marked (set marks (s / 64) w) x ≡ (marked marks x && not (eqb x s))
unfolding marked
unmarked marks s w l f x = go (ℕ_discrete (x / 64) (s / 64))
  where
    go : Dec (x / 64 ≡ s / 64) → has (get_or (set marks (s / 64) w) (x / 64) 0) (x % 64) ≡ (has (get_or marks (x / 64) 0) (x % 64) && not (eqb x s))
    go (yes e) =
        let z : 64 * (s / 64) + x % 64 ≡ x = omega arith in
        ap (λ (c : ℕ). has (get_or (set marks (s / 64) w) c 0) (x % 64)) e ∙ ap (λ (v : ℕ). has v (x % 64)) (get_or-set_same marks (s / 64) w 0 l) ∙ f (x % 64) (omega arith)
        ∙ ap (λ (c : ℕ). has (get_or marks c 0) (x % 64) && not (eqb (64 * (s / 64) + x % 64) s)) (sym e) ∙ ap (λ (c : ℕ). has (get_or marks (x / 64) 0) (x % 64) && not (eqb c s)) z
    go (no e) =
        ap (λ (v : ℕ). has v (x % 64)) (get_or-set_other marks (s / 64) (x / 64) w 0 e)
        ∙ sym (ap (λ (c : Bool). has (get_or marks (x / 64) 0) (x % 64) && not c) (ne_eqb x s (λ q. e (ap (λ (y : ℕ). y / 64) q))) ∙ and-true (has (get_or marks (x / 64) 0) (x % 64)))

-- every row has degree 1 in M
-- a word to which one is added to give a power of two is all ones below
all_ones : (x n : ℕ) → T (eqb (x + 1) (2 ^ n)) → (i : ℕ) → i < n → T (has x i)
all_ones x n t i l =
    let e = eqb→eq (x + 1) (2 ^ n) t in
    let z : x ≡ 2 ^ n - 1 - 0 = omega arith in
    true_yes (ap (λ (y : ℕ). has y i) z ∙ has_complement n 0 i (pow_pos n) l ∙ ap not (has_zero i))

pub no_rival : (rows grades marks : List ℕ) (M first : ℕ) → Grades rows grades M → FirstTo grades (length rows) first → T (eqb (first + 1) (2 ^ length rows))
    → (s : ℕ) → T (rival (over rows) marks M s) → ⊥
no_rival rows grades marks M first g f e s t = false_no (none_over rows grades M g first f (all_ones first (length rows) e) s) (and_r (marked marks s) (over rows s M) t)

-- ---- where a marked set stands
pub stands : (ranking : Ranking) (marks : List ℕ) → Searched ranking marks → (s : ℕ) → T (marked marks s)
    → (s / 64 < length marks) × T (inside ranking.span.low (s / 64)) × T (inside (s / 64) ranking.span.high)
stands ranking marks h s t =
    let l : s < 64 * length marks = lt_of_not-le (λ k. false_no (marked_past marks s k) t) in
    (omega arith, (h.between s t).0, (h.between s t).1)
