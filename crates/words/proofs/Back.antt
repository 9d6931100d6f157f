-- The bridge from a page to its words: on an accepted page the words mean its rows and its pairs, each read back from its word. So a test of the
-- words is a test of the page's program, for none of these tests asks how many atoms there are. What acceptance is needed for: bodies rise, so a
-- set keeps them; atoms are below 16, heads have at most six of them, and there are no more rows and pairs than words. Assumes nothing.
use mathlib.Core.Path.{◌≡◌, refl, ap, ◌∙◌}
use mathlib.Core.Bool.{cond}
use mathlib.Core.Logic.{⊎_elim}
use mathlib.Core.List.Memᴰ
use mathlib.Core.List.{List, [], ◌∷◌, map, Memᴰ}
use Prim.Native.Nat.{ℕ, ◌+◌, ◌*◌, ◌/◌, ◌%◌, ◌≤◌, ◌<◌}
use native.Mathlib.Decide.{dec_lt}
use native.Mathlib.Omega.{arith}
use lib.Dec.{T, ltb}
use lib.ListN.{length}
use borrow.Author.Tests.{ltb-true, lt-ltb, le-ltb}
use Rattle.atoms.proofs.Truth.{and_l, and_r, yes_true, true_yes}
use Rattle.lpod.specs.Lists.{Rising}
use Rattle.lpod.specs.Rule.{Rule, Pair, Program, most_atoms, rules}
use Rattle.lpod.specs.Answer.{answer}
use Rattle.lpod.specs.Preferred.{preferred}
use Rattle.lpod.specs.HereThere.{here_there}
use Rattle.lpod.specs.Split.{split_count}
use Rattle.lpod.proofs.Lists.{every_at}
use Rattle.page.specs.Fields.{row_count, pair_count, literals_at, head_count}
use Rattle.page.specs.Program.{rule_at, rows_of, pairs_of, literal_place, program}
use Rattle.page.specs.Refusals.{rises, rises_above, bodies_rise, page_no}
use Rattle.page.proofs.Places.{length_literals, in_rows}
use Rattle.page.proofs.Accepted.{ranges, counts, bodies_rise_lem}
use Rattle.page.proofs.AcceptedAtoms.{rows_below, pairs_below}
use Rattle.words.specs.Coded
use Rattle.words.proofs.Sets.{atoms_below, atoms_back}
use Rattle.words.proofs.Digits.{packed_small, digits_back}

-- a list is back where each of its elements is
map_back : {A B : Type 0} (f : A → B) (g : B → A) (l : List A) → ((x : A) → Memᴰ x l → g (f x) ≡ x) → map g (map f l) ≡ l
map_back f g [] h = refl
map_back f g (x ∷ l) h = λ i. h x (Memᴰ.head refl) i ∷ map_back f g l (λ y m. h y (Memᴰ.tail m)) i

at_most_lem : (most n : ℕ) → n ≤ most → Coded.at_most most n ≡ n
unfolding Coded.at_most
at_most_lem most n h = go (dec_lt n most)
  where
    go : Dec (n < most) → cond (ltb n most) n most ≡ n
    go (yes l) = rw (lt-ltb n most l)
    go (no l) = rw (le-ltb n most (omega arith)) (omega arith)

-- ---- lists that rise, by the page's test
above_rising : (a : ℕ) (l : List ℕ) → T (rises_above a l) → ((b : ℕ) → Memᴰ b l → a < b) × Rising l
unfolding rises_above
above_rising a [] t = ((λ b m. elim m [ ]), tt)
above_rising a (b ∷ l) t =
    let r = above_rising b l (and_r (ltb a b) (rises_above b l) t) in
    let k : a < b = ltb-true a b (yes_true (ltb a b) (and_l (ltb a b) (rises_above b l) t)) in
    ((λ c m. ⊎_elim (λ e. omega (arith, e)) (λ n. omega (arith, r.0 c n)) (Memᴰ.cases_cons m)), r)

rises_rising : (l : List ℕ) → T (rises l) → Rising l
unfolding rises
rises_rising [] t = tt
rises_rising (a ∷ l) t = above_rising a l t

-- ---- one row: the four parts of its word, and what they mean
module _ (p n c k : ℕ) (hp : p < 65536) (hn : n < 65536) (hc : c < 256) where
  abbrev four : ℕ
  four = p + 65536 * n + 4294967296 * c + 1099511627776 * k

  pos_part : Coded.pos_set four ≡ p
  unfolding Coded.pos_set
  pos_part = omega arith

  neg_part : Coded.neg_set four ≡ n
  unfolding Coded.neg_set
  neg_part = omega arith

  length_part : Coded.head_length four ≡ c
  unfolding Coded.head_length
  length_part = omega arith

  digits_part : Coded.head_digits four ≡ k
  unfolding Coded.head_digits
  digits_part = omega arith

module _ (r : Rule) (six : length r.head ≤ 6) (head : (a : ℕ) → Memᴰ a r.head → a < 16) where
  head_back : Coded.digits (Coded.head_length (Coded.row_word r)) (Coded.head_digits (Coded.row_word r)) ≡ r.head
  unfolding Coded.row_word
  head_back =
      let p = Coded.atoms_of r.pos in
      let n = Coded.atoms_of r.neg in
      let c = length r.head in
      let k = Coded.packed r.head % 16777216 in
      let small : Coded.packed r.head % 16777216 ≡ Coded.packed r.head = omega (arith, packed_small r.head six) in
      let hp = atoms_below r.pos in
      let hn = atoms_below r.neg in
      rw (length_part p n c k hp hn (omega arith), digits_part p n c k hp hn (omega arith), small)
      (digits_back r.head head)

  pos_back : Coded.pos_set (Coded.row_word r) ≡ Coded.atoms_of r.pos
  unfolding Coded.row_word
  pos_back = pos_part _ _ (length r.head) _ (atoms_below r.pos) (atoms_below r.neg) (omega arith)

  neg_back : Coded.neg_set (Coded.row_word r) ≡ Coded.atoms_of r.neg
  unfolding Coded.row_word
  neg_back = neg_part _ _ (length r.head) _ (atoms_below r.pos) (atoms_below r.neg) (omega arith)

  pub row_back : ((a : ℕ) → Memᴰ a r.pos → a < 16) → ((a : ℕ) → Memᴰ a r.neg → a < 16) → Rising r.pos → Rising r.neg
      → Coded.rule_in (Coded.row_word r) ≡ r
  unfolding Coded.rule_in
  row_back bp bn rp rn =
      let ep : Coded.atoms_in (Coded.pos_set (Coded.row_word r)) ≡ r.pos = rw pos_back (atoms_back r.pos bp rp) in
      let en : Coded.atoms_in (Coded.neg_set (Coded.row_word r)) ≡ r.neg = rw neg_back (atoms_back r.neg bn rn) in
      λ i. record { head = head_back i; pos = ep i; neg = en i }

-- ---- one pair
pub pair_back : (q : Pair) → q.one < 256 → Coded.pair_in (Coded.pair_word q) ≡ q
unfolding Coded.pair_in Coded.pair_word
pair_back q h =
    let one : (q.one + 256 * q.other) % 256 ≡ q.one = omega arith in
    let other : (q.one + 256 * q.other) / 256 ≡ q.other = omega arith in
    λ i. record { one = one i; other = other i }

-- ---- none of the tests asks how many atoms there are
abbrev with_atoms : List Rule → List Pair → ℕ → ℕ → Program
with_atoms R Q flags n = record { atoms = n; rows = R; pairs = Q; flags = flags }

module _ (R : List Rule) (Q : List Pair) (flags A B : ℕ) where
  answer_atoms : answer (with_atoms R Q flags A) ≡ answer (with_atoms R Q flags B)
  unfolding answer rules
  answer_atoms = refl

  -- nor does the preference ask for pairs
  preferred_atoms : (Q' : List Pair) → preferred (with_atoms R Q flags A) ≡ preferred (with_atoms R Q' flags B)
  unfolding preferred rules
  preferred_atoms Q' = refl

  here_there_atoms : here_there (with_atoms R Q flags A) ≡ here_there (with_atoms R Q flags B)
  unfolding here_there rules
  here_there_atoms = refl

  split_atoms : split_count (with_atoms R Q flags A) ≡ split_count (with_atoms R Q flags B)
  unfolding split_count rules
  split_atoms = refl

-- ---- an accepted page
module _ (page : List ℕ) (h : page_no page ≡ 0) where
  pub row_most : Coded.row_total page ≡ row_count page
  unfolding Coded.row_total
  row_most = at_most_lem 32 (row_count page) (ranges page h).rows_most

  pub pair_most : Coded.pair_total page ≡ pair_count page
  unfolding Coded.pair_total
  pair_most = at_most_lem 8 (pair_count page) (ranges page h).pairs_most

  six_at_most : (r : Rule) → Memᴰ r (rows_of page) → length r.head ≤ 6
  unfolding rows_of rule_at literal_place
  six_at_most r m =
      let s = in_rows page 0 (literals_at page) (row_count page) r refl m in
      let e : length r.head ≡ head_count page s.0 = ap (λ (x : Rule). length x.head) s.1.2 ∙ length_literals page (literal_place page s.0) (head_count page s.0) in
      omega (arith, (counts page h s.0 (omega (arith, s.1.1))).head_most)

  each_back : (r : Rule) → Memᴰ r (rows_of page) → Coded.rule_in (Coded.row_word r) ≡ r
  unfolding bodies_rise
  each_back r m =
      let b = rows_below page h r m in
      let most = (ranges page h).atoms_most in
      let t = every_at bodies_rise (rows_of page) (true_yes (bodies_rise_lem page h)) r m in
      row_back r (six_at_most r m) (λ a n. omega (arith, b.head_below a n)) (λ a n. omega (arith, b.pos_below a n)) (λ a n. omega (arith, b.neg_below a n))
      (rises_rising r.pos (and_l (rises r.pos) (rises r.neg) t)) (rises_rising r.neg (and_r (rises r.pos) (rises r.neg) t))

  pub rows_back : Coded.rules_in (Coded.row_words page) ≡ rows_of page
  unfolding Coded.rules_in Coded.row_words rows_of
  rows_back = rw row_most (map_back Coded.row_word Coded.rule_in (rows_of page) each_back)

  pub pairs_back : Coded.pairs_in (Coded.pair_words page) ≡ pairs_of page
  unfolding Coded.pairs_in Coded.pair_words pairs_of
  pairs_back =
      rw pair_most
      (map_back Coded.pair_word Coded.pair_in (pairs_of page) (λ q m. pair_back q (omega (arith, (pairs_below page h q m).one_below, (ranges page h).atoms_most))))

  -- the law of the bridge: the words of the page mean its rows and its pairs. So this program and
  -- `program page flags` differ in the number of atoms alone
  pub words_mean : (flags : ℕ)
      → Coded.program_in (Coded.row_words page) (Coded.pair_words page) flags ≡ record { atoms = most_atoms; rows = rows_of page; pairs = pairs_of page; flags = flags }
  unfolding Coded.program_in
  words_mean flags = rw (rows_back, pairs_back)

  module _ (flags : ℕ) where
    pub same_answer : answer (Coded.program_in (Coded.row_words page) (Coded.pair_words page) flags) ≡ answer (program page flags)
    unfolding program
    same_answer = ap answer (words_mean flags) ∙ answer_atoms (rows_of page) (pairs_of page) flags _ _

    pub same_preferred : preferred (Coded.program_in (Coded.row_words page) [] flags) ≡ preferred (program page flags)
    unfolding program Coded.program_in Coded.pairs_in
    same_preferred = rw rows_back (preferred_atoms (rows_of page) [] flags _ _ (pairs_of page))

    pub same_here_there : here_there (Coded.program_in (Coded.row_words page) (Coded.pair_words page) flags) ≡ here_there (program page flags)
    unfolding program
    same_here_there = ap here_there (words_mean flags) ∙ here_there_atoms (rows_of page) (pairs_of page) flags _ _

    pub same_split : split_count (Coded.program_in (Coded.row_words page) (Coded.pair_words page) flags) ≡ split_count (program page flags)
    unfolding program
    same_split = ap split_count (words_mean flags) ∙ split_atoms (rows_of page) (pairs_of page) flags _ _
