-- A word taken run by run: the zeros at its low end are passed over, the ones above them are a run of marked sets, and what is left is shifted down
-- to begin after it. Assumes nothing.
use mathlib.Core.Path.{◌≡◌, refl, sym, ap, ◌∙◌, subst}
use mathlib.Core.List.{List, [], ◌++◌}
use Prim.Native.Nat.{ℕ, ◌+◌, ◌-◌, ◌*◌, ◌/◌, ◌^◌, ◌≤◌, ◌<◌}
use native.Mathlib.Nat.{div-one}
use native.Mathlib.Omega.{arith}
use lib.Count.{count_trailing_zeros}
use lib.Dec.{T}
use lib.ListN.{length, get_or, set, length-append}
use lib.Pow.{shr-shr}
use lib.Seq.{sets, length-sets}
use Rattle.atoms.specs.Atoms.{has}
use Rattle.lpod.specs.Lists.{keep, numbers}
use Rattle.lpod.proofs.Lists.{numbers_done}
use Rattle.lanes.specs.Marks.{marked}
use Rattle.lanes.proofs.Words.{full, has_add}
use Rattle.lanes.proofs.Seek.{NoneBetween, numbers_length}
use Rattle.lanes.proofs.Marked.{left_shift, left_none, left_small, gap_bit, gap_below, gap_none, run_below, run_all, run_some}
use Rattle.lanes.proofs.BlockSets.{passing, cut_gap, cut_run}
use Rattle.lanes.proofs.Stored.{part_stored}

-- what the loops that store a block keep: x is what is left of the word from the set s on, and the sets from s on, stored from `at` on, leave what all
-- sets of the block do
pub record ToStore (marks : List ℕ) (b : ℕ) (out₀ : List ℕ) (k : ℕ) (out : List ℕ) (x s at : ℕ) : Type 0 where
  pub from : 64 * b ≤ s
  pub to : s ≤ 64 * b + 64
  pub left : x ≡ get_or marks b 0 / 2 ^ (s - 64 * b)
  pub long : length out ≡ length out₀
  pub place : k + length (keep (marked marks) (numbers (64 * b) 64)) ≡ at + length (passing (marked marks) s (64 * b + 64))
  pub stored : sets out₀ k (keep (marked marks) (numbers (64 * b) 64)) ≡ sets out at (passing (marked marks) s (64 * b + 64))

-- from the set s on there is a gap, then a run of so many ones; y begins with the run
pub record Run (marks : List ℕ) (b s gap y many : ℕ) : Type 0 where
  pub low : gap < 64
  pub some : 0 < many
  pub most : many ≤ 64
  pub fits : s + gap + many ≤ 64 * b + 64
  pub parts : passing (marked marks) s (64 * b + 64) ≡ numbers (s + gap) many ++ passing (marked marks) (s + gap + many) (64 * b + 64)
  pub left : y / 2 ^ (many - 1) / 2 ≡ get_or marks b 0 / 2 ^ (s + gap + many - 64 * b)

module _ (marks : List ℕ) (b s x : ℕ) (l : 64 * b ≤ s) (e : x ≡ get_or marks b 0 / 2 ^ (s - 64 * b)) (small : get_or marks b 0 < 2 ^ 64) (p : x ≡ 0 → ⊥) where
  abbrev gap : ℕ
  gap = count_trailing_zeros 64 x

  abbrev y : ℕ
  y = x / 2 ^ gap

  shift : y ≡ get_or marks b 0 / 2 ^ (s - 64 * b + gap)
  shift = left_shift marks b (s - 64 * b) x e gap

  some_one : 0 < count_trailing_zeros 64 (full - y)
  some_one =
      let z : gap + 0 ≡ gap = omega arith in
      run_some y (omega (arith, left_small marks b (s - 64 * b + gap) y shift small))
      (subst T (sym (ap (has x) z) ∙ has_add x gap 0) (gap_bit marks b (s - 64 * b) x e small p))

  -- so many of the ones
  module _ (many : ℕ) (positive : 0 < many) (enough : many ≤ count_trailing_zeros 64 (full - y)) where
    run_of : Run marks b s gap y many
    run_of =
        let k = s - 64 * b in
        let at : 64 * b + k ≡ s = omega arith in
        let at-run : 64 * b + (k + gap) ≡ s + gap = omega arith in
        let in-word : k + gap < 64 = gap_below marks b k x e small p in
        let in_block : k + gap + count_trailing_zeros 64 (full - y) ≤ 64 = run_below marks b (k + gap) y shift small (omega arith) in
        let none = rw at at (gap_none marks b k x e small p) in
        let all = rw at-run at (run_all marks b (k + gap) y shift small) in
        let less : s + gap + many - (s + gap) ≡ many = omega arith in
        let one_more : many - 1 + 1 ≡ many = omega arith in
        let shifted : k + gap + many ≡ s + gap + many - 64 * b = omega arith in
        record {
          low = omega arith;
          some = positive;
          most = omega arith;
          fits = omega arith;
          parts = cut_gap (marked marks) s (s + gap) (64 * b + 64) (omega arith) (omega arith) none
              ∙ cut_run (marked marks) (s + gap) (s + gap + many) (64 * b + 64) (omega arith) (omega arith) (λ t l h. all t l (omega arith))
              ∙ ap (λ (n : ℕ). numbers (s + gap) n ++ passing (marked marks) (s + gap + many) (64 * b + 64)) less;
          left = shr-shr y (many - 1) 1 ∙ ap (λ (n : ℕ). y / 2 ^ n) one_more ∙ left_shift marks b (k + gap) y shift many ∙ ap (λ (n : ℕ). get_or marks b 0 / 2 ^ n) shifted;
        }

  pub next_run : Run marks b s gap y (count_trailing_zeros 64 (full - y))
  next_run = run_of (count_trailing_zeros 64 (full - y)) some_one (omega arith)

  pub next_one : Run marks b s gap y 1
  next_one = run_of 1 (omega arith) some_one

-- the whole word; and nothing left of it
module _ (marks : List ℕ) (b : ℕ) where
  pub runs_word : get_or marks b 0 ≡ get_or marks b 0 / 2 ^ (64 * b - 64 * b)
  runs_word = let z : 64 * b - 64 * b ≡ 0 = omega arith in rw z (sym (div-one (get_or marks b 0)))

  pub runs_all : keep (marked marks) (numbers (64 * b) 64) ≡ passing (marked marks) (64 * b) (64 * b + 64)
  runs_all = let z : 64 ≡ 64 * b + 64 - 64 * b = omega arith in ap (λ (n : ℕ). keep (marked marks) (numbers (64 * b) n)) z

  pub runs_done : (s x : ℕ) → 64 * b ≤ s → s ≤ 64 * b + 64 → x ≡ get_or marks b 0 / 2 ^ (s - 64 * b) → x ≡ 0 → passing (marked marks) s (64 * b + 64) ≡ []
  unfolding keep
  runs_done s x l h e z =
      let at : 64 * b + (s - 64 * b) ≡ s = omega arith in
      let end : 64 * (b + 1) ≡ 64 * b + 64 = omega arith in
      let none : NoneBetween (marked marks) s (64 * b + 64) = rw (at, end) at (left_none marks b (s - 64 * b) x e z) in
      cut_gap (marked marks) s (64 * b + 64) (64 * b + 64) h (omega arith) none ∙ ap (keep (marked marks)) (numbers_done (64 * b + 64) (64 * b + 64) (omega arith))

module _ {marks : List ℕ} {b s gap y many : ℕ} (r : Run marks b s gap y many) where
  pub run_length : length (passing (marked marks) s (64 * b + 64)) ≡ many + length (passing (marked marks) (s + gap + many) (64 * b + 64))
  run_length =
      ap length r.parts ∙ length-append (numbers (s + gap) many) (passing (marked marks) (s + gap + many) (64 * b + 64))
      ∙ ap (λ (n : ℕ). n + length (passing (marked marks) (s + gap + many) (64 * b + 64))) (numbers_length (s + gap) many)

  -- the run is stored, and the rest is to come
  pub run_stored : (out out' : List ℕ) (at : ℕ) → out' ≡ sets out at (numbers (s + gap) many)
      → sets out at (passing (marked marks) s (64 * b + 64)) ≡ sets out' (at + many) (passing (marked marks) (s + gap + many) (64 * b + 64))
  run_stored out out' at e =
      part_stored (passing (marked marks) s (64 * b + 64)) (numbers (s + gap) many) (passing (marked marks) (s + gap + many) (64 * b + 64)) out out' at (at + many)
      r.parts e (ap (λ (n : ℕ). at + n) (sym (numbers_length (s + gap) many)))

  pub run_same : (out out' : List ℕ) (at : ℕ) → out' ≡ sets out at (numbers (s + gap) many) → length out' ≡ length out
  run_same out out' at e = ap length e ∙ length-sets out at (numbers (s + gap) many)

-- a run of one
pub one_stored : (out : List ℕ) (at s : ℕ) → set out at s ≡ sets out at (numbers s 1)
unfolding numbers
one_stored out at s = refl

pub one_left : {marks : List ℕ} {b s gap y : ℕ} → Run marks b s gap y 1 → y / 2 ≡ get_or marks b 0 / 2 ^ (s + gap + 1 - 64 * b)
one_left {y = y} r = ap (λ (n : ℕ). n / 2) (sym (div-one y)) ∙ r.left

-- ---- the two loops: how they begin, the run in hand, one turn, and the end
pub to_store : (marks : List ℕ) (b : ℕ) (out : List ℕ) (k : ℕ) → ToStore marks b out k out (get_or marks b 0) (64 * b) k
to_store marks b out k =
    let e = runs_all marks b in
    record {
      from = omega arith;
      to = omega arith;
      left = runs_word marks b;
      long = refl;
      place = ap (λ (l : List ℕ). k + length l) e;
      stored = ap (sets out k) e;
    }

module _ {marks : List ℕ} {b : ℕ} {out₀ : List ℕ} {k : ℕ} {out : List ℕ} {x s at : ℕ} (h : ToStore marks b out₀ k out x s at) where
  pub run_here : get_or marks b 0 < 2 ^ 64 → (x ≡ 0 → ⊥)
      → Run marks b s (count_trailing_zeros 64 x) (x / 2 ^ count_trailing_zeros 64 x) (count_trailing_zeros 64 (full - x / 2 ^ count_trailing_zeros 64 x))
  run_here l p = next_run marks b s x h.from h.left l p

  pub one_here : get_or marks b 0 < 2 ^ 64 → (x ≡ 0 → ⊥) → Run marks b s (count_trailing_zeros 64 x) (x / 2 ^ count_trailing_zeros 64 x) 1
  one_here l p = next_one marks b s x h.from h.left l p

  -- there is room for the run
  pub run_room : {gap y many : ℕ} → Run marks b s gap y many → at + many ≤ k + length (keep (marked marks) (numbers (64 * b) 64))
  run_room r = omega (arith, h.place, run_length r)

  pub run_turn : {gap y many : ℕ} (r : Run marks b s gap y many) (out' : List ℕ) (x' : ℕ) → out' ≡ sets out at (numbers (s + gap) many)
      → x' ≡ get_or marks b 0 / 2 ^ (s + gap + many - 64 * b) → ToStore marks b out₀ k out' x' (s + gap + many) (at + many)
  run_turn r out' x' e l = record {
    from = omega (arith, h.from);
    to = r.fits;
    left = l;
    long = run_same r out out' at e ∙ h.long;
    place = omega (arith, h.place, run_length r);
    stored = h.stored ∙ run_stored r out out' at e;
  }

  pub all_stored : x ≡ 0 → (out ≡ sets out₀ k (keep (marked marks) (numbers (64 * b) 64))) × (at ≡ k + length (keep (marked marks) (numbers (64 * b) 64)))
  all_stored z =
      let e = runs_done marks b s x h.from h.to h.left z in
      (sym (h.stored ∙ ap (sets out at) e), omega (arith, h.place, ap length e))
