-- The atoms of an accepted page are below A: those of every head and body of its rows, and of its pairs. Each is a byte between two places
-- that lie inside. And the words of an accepted call are below 2 ^ A. Assumes nothing.
use mathlib.Core.Path.{◌≡◌, refl, sym, subst}
use mathlib.Core.Bool.{true}
use mathlib.Core.List.{List, [], ◌∷◌, Memᴰ}
use Prim.Native.Nat.{ℕ, suc, ◌+◌, ◌*◌, ◌^◌, ◌≤◌, ◌<◌}
use native.Mathlib.Omega.{arith}
use borrow.Author.Tests.{ltb-true}
use Rattle.atoms.proofs.Truth.{yes_true, true_yes}
use Rattle.lpod.specs.Lists.{every}
use Rattle.lpod.specs.Rule.{Rule, Pair}
use Rattle.lpod.proofs.Lists.{every_at}
use Rattle.page.specs.Fields.{byte_at, atom_count, row_count, literal_count, pair_count, literals_at, pairs_at, head_count, pos_count, neg_count, literals_of}
use Rattle.page.specs.Program.{literals, rule_at, rows_of, pairs_of, literal_place}
use Rattle.page.specs.Refusals.{is_below, refuse, first_that, numbered, bits_from, flags_out, set_out}
use Rattle.page.specs.Refusals.{page_refusals, flag_refusals, set_refusals, test_refusals, page_no, flag_no, test_no}
use Rattle.page.proofs.Refusals.{page_numbered, flag_numbered, given_denied, given_append}
use Rattle.page.proofs.Places.{in_literals, literals_in, place_up, in_rows, in_pairs}
use Rattle.page.proofs.Words.{no_bits}
use Rattle.page.proofs.Accepted.{ranges, places_inside, all_below_atoms}

-- every atom of a list is below n; of a rule's three lists; of a pair
abbrev pub AtomsBelow : ℕ → List ℕ → Type 0
AtomsBelow n l = (a : ℕ) → Memᴰ a l → a < n

pub record RuleBelow (n : ℕ) (r : Rule) : Type 0 where
  pub head_below : AtomsBelow n r.head
  pub pos_below : AtomsBelow n r.pos
  pub neg_below : AtomsBelow n r.neg

pub record PairBelow (n : ℕ) (q : Pair) : Type 0 where
  pub one_below : q.one < n
  pub other_below : q.other < n

-- a run of literals that are all below n: each byte of it is
run_below : (page : List ℕ) (i n A k : ℕ) → every (is_below A) (literals page i n) ≡ true → i ≤ k → k < i + n → byte_at page k < A
unfolding is_below
run_below page i n A k e l h =
    ltb-true (byte_at page k) A (yes_true (is_below A (byte_at page k)) (every_at (is_below A) (literals page i n) (true_yes e) (byte_at page k) (literals_in page i n k l h)))

module _ (page : List ℕ) (h : page_no page ≡ 0) where
  -- a run inside the page's literals
  part_below : (i n : ℕ) → literals_at page ≤ i → i + n ≤ pairs_at page → AtomsBelow (atom_count page) (literals page i n)
  unfolding pairs_at
  part_below i n l u a m =
      let r = in_literals page i n a m in
      subst (λ (x : ℕ). x < atom_count page) (sym r.1.2)
      (run_below page (literals_at page) (literal_count page) (atom_count page) r.0 (all_below_atoms page h).0 (omega (arith, r.1.0)) (omega (arith, r.1.1)))

  pub rows_below : (rule : Rule) → Memᴰ rule (rows_of page) → RuleBelow (atom_count page) rule
  unfolding rows_of rule_at literal_place literals_of
  rows_below rule m =
      let s = in_rows page 0 (literals_at page) (row_count page) rule refl m in
      let low : literals_at page ≤ literal_place page s.0 = place_up page 0 s.0 (omega arith) in
      let high : literal_place page s.0 + (head_count page s.0 + pos_count page s.0 + neg_count page s.0) ≤ pairs_at page
      = places_inside page h (suc s.0) (omega (arith, s.1.1)) in
      subst (RuleBelow (atom_count page)) (sym s.1.2) (record {
        head_below = part_below _ _ low (omega arith);
        pos_below = part_below _ _ (omega arith) (omega arith);
        neg_below = part_below _ _ (omega arith) (omega arith);
      })

  pub pairs_below : (q : Pair) → Memᴰ q (pairs_of page) → PairBelow (atom_count page) q
  unfolding pairs_of
  pairs_below q m =
      let r = in_pairs page (pairs_at page) (pair_count page) q m in
      let at : (k : ℕ) → pairs_at page ≤ k → k < pairs_at page + 2 * pair_count page → byte_at page k < atom_count page
      = λ k l u. run_below page (pairs_at page) (2 * pair_count page) (atom_count page) k (all_below_atoms page h).1 l u in
      subst (PairBelow (atom_count page)) (sym r.1.2) (record {
        one_below = at r.0 r.1.0 (omega (arith, r.1.1));
        other_below = at (r.0 + 1) (omega (arith, r.1.0)) (omega (arith, r.1.1));
      })

-- ---- an accepted call: the page is accepted, and its words are below 2 ^ A
word_below : (A w : ℕ) → A ≤ 16 → w < 2 ^ 16 → first_that (refuse 9 (bits_from A w) ∷ []) ≡ 0 → w < 2 ^ A
unfolding numbered every
word_below A w l h e = (no_bits A w l h).0 (given_denied (refuse 9 (bits_from A w) ∷ []) tt e).0

module _ (page : List ℕ) (flags : ℕ) (h : flag_no page flags ≡ 0) where
  both_zero : (page_no page ≡ 0) × (first_that (refuse 9 (flags_out page flags) ∷ []) ≡ 0)
  unfolding flag_no flag_refusals page_no
  both_zero = given_append (page_refusals page) (refuse 9 (flags_out page flags) ∷ []) (page_numbered page) h

  pub flag_page : page_no page ≡ 0
  flag_page = both_zero.0

  pub flags_below : flags < 2 ^ 16 → flags < 2 ^ atom_count page
  unfolding flags_out
  flags_below w = word_below (atom_count page) flags (ranges page flag_page).atoms_most w both_zero.1

module _ (page : List ℕ) (flags set : ℕ) (h : test_no page flags set ≡ 0) where
  test_both_zero : (flag_no page flags ≡ 0) × (first_that (set_refusals page set) ≡ 0)
  unfolding test_no test_refusals flag_no
  test_both_zero = given_append (flag_refusals page flags) (set_refusals page set) (flag_numbered page flags) h

  pub test_flags : flag_no page flags ≡ 0
  test_flags = test_both_zero.0

  pub set_below : set < 2 ^ 16 → set < 2 ^ atom_count page
  unfolding set_refusals set_out
  set_below w = word_below (atom_count page) set (ranges page (flag_page page flags test_flags)).atoms_most w test_both_zero.1
