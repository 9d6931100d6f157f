-- The statement of the call that compares, for each of its ways out. And what the side says: never is each of two sets preferred to the other, so
-- +1 says that the first is, −1 that the second is, and the sets in turned order get the other sign. Assumes nothing.
use Rattle.std.specs.Prelude.{Result, Ok, Err}
use mathlib.Core.Path.{◌≡◌, refl, ap, ◌∙◌}
use mathlib.Core.Bool.{Bool, true, false, ◌&&◌, not, cond}
use mathlib.Core.Logic.{◌↔◌}
use mathlib.Core.List.{List, [], ◌∷◌, ◌++◌}
use Prim.Native.Nat.{ℕ}
use native.Mathlib.Omega.{arith}
use lib.Dec.{T}
use lib.IntN.{pos, negsuc, neg_ℤ}
use Rattle.lpod.specs.Lists.{every}
use Rattle.lpod.specs.Rule.{Program}
use Rattle.lpod.specs.Answer.{answer}
use Rattle.lpod.specs.Preferred.{preferred, compare}
use Rattle.lpod.proofs.InclusionOrder.{preferred_irreflexive, preferred_transitive}
use Rattle.page.specs.Program.{program}
use Rattle.page.specs.Refusals as lists
use Rattle.page.specs.Refusals.{refuse, first_that, numbered, set_refusals, test_refusals, page_no, set_no, test_no}
use Rattle.page.specs.Answers.{number, no}
use Rattle.page.specs.declared.refusal.Refusal.{Refusal}
use Rattle.page.specs.declared.refusal.Refusal.TheVariants.{NotAnAnswerSet}
use Rattle.page.proofs.Refusals.{test_numbered}
use Rattle.page.proofs.Refusing.{first_stands, then_rest, refused_here, given}
use Rattle.words.specs.Coded.{program_in, row_words, pair_words}
use Rattle.words.proofs.Lent.{test_page, lent_answer, lent_preferred}
use Rattle.engine.specs.Compare.{compare_refusals, compare_no, side_number, sided, CompareSays}
use Rattle.engine.specs.declared.compare.Side.{Side}
use Rattle.engine.specs.declared.compare.Side.TheVariants.{First, Second, Neither}

-- the comparison goes by the relation alone
pub compare_by : (p q : Program) (M N : ℕ) → preferred p ≡ preferred q → compare p M N ≡ compare q M N
unfolding compare
compare_by p q M N e = ap (λ (over : ℕ → ℕ → Bool). cond (over M N) (pos 1) (cond (over N M) (negsuc 0) (pos 0))) e

-- the numbers of a set's refusals are above 0
set_numbered : (page : List ℕ) (set : ℕ) → T (numbered (set_refusals page set))
unfolding numbered every set_refusals
set_numbered page set = tt

-- ---- the ways out of the call
module _ (page : List ℕ) (flags M N : ℕ) where
  last : List lists.Refusal
  last = refuse 13 (not (answer (program page flags) M && answer (program page flags) N)) ∷ []

  refused_by : (e : Refusal) → number e ≡ compare_no page flags M N → CompareSays page flags M N (Err e)
  refused_by e = refused_here (pos 0) (compare (program page flags) M N) (compare_no page flags M N) e

  -- the page, the flag word or the first set is refused
  pub compare_tested : (e : Refusal) → number e ≡ test_no page flags M → CompareSays page flags M N (Err e)
  unfolding compare_no compare_refusals test_no last
  compare_tested e q = refused_by e (first_stands (test_refusals page flags M) (set_refusals page N ++ last) (test_numbered page flags M) e q)

  module _ (z : 0 ≡ test_no page flags M) where
    after_first : (n : ℕ) → n ≡ first_that (set_refusals page N ++ last) → n ≡ compare_no page flags M N
    unfolding compare_no compare_refusals test_no last
    after_first n = then_rest (test_refusals page flags M) (set_refusals page N ++ last) (test_numbered page flags M) n z

    -- the second set is
    pub compare_second_tested : (e : Refusal) → number e ≡ set_no page N → CompareSays page flags M N (Err e)
    unfolding set_no
    compare_second_tested e q = refused_by e (after_first (number e) (first_stands (set_refusals page N) last (set_numbered page N) e q))

    -- one of them is no answer set, or they are compared: as it is found of the words of an accepted page
    module _ (y : 0 ≡ set_no page N) (rows : List ℕ) (er : rows ≡ row_words page) (pairs : List ℕ) (ep : pairs ≡ pair_words page) (b : Bool)
        (eb : b ≡ (answer (program_in rows pairs flags) M && answer (program_in rows pairs flags) N)) where
      accepted : page_no page ≡ 0
      accepted = test_page page flags M z

      from_last : (n : ℕ) → n ≡ first_that last → n ≡ compare_no page flags M N
      unfolding set_no
      from_last n q = after_first n (then_rest (set_refusals page N) last (set_numbered page N) n y q)

      told : b ≡ (answer (program page flags) M && answer (program page flags) N)
      told = eb ∙ ap (λ (q : ℕ → Bool). q M && q N) (lent_answer page accepted rows er pairs ep flags)

      pub compare_no_answer : b ≡ false → CompareSays page flags M N (Err NotAnAnswerSet)
      unfolding first_that last
      compare_no_answer t = refused_by NotAnAnswerSet (from_last 13 (rw (← told, t)))

      pub compare_given : b ≡ true → (s : Side) → side_number s ≡ compare (program_in rows [] flags) M N → CompareSays page flags M N (Ok s)
      unfolding first_that last
      compare_given t s es =
          given (pos 0) (compare (program page flags) M N) (compare_no page flags M N) (from_last 0 (rw (← told, t))) (side_number s)
          (es ∙ compare_by (program_in rows [] flags) (program page flags) M N (lent_preferred page accepted rows er flags))

-- ---- what the side says
module _ (p : Program) (M N : ℕ) where
  pub never_both : T (preferred p M N) → T (preferred p N M) → ⊥
  never_both a b = preferred_irreflexive p M (preferred_transitive p M N M a b)

  pub compare_turned : compare p N M ≡ neg_ℤ (compare p M N)
  unfolding compare
  compare_turned = go (preferred p M N) (preferred p N M) never_both
    where
      go : (a b : Bool) → (T a → T b → ⊥) → cond b (pos 1) (cond a (negsuc 0) (pos 0)) ≡ neg_ℤ (cond a (pos 1) (cond b (negsuc 0) (pos 0)))
      go true true f = absurd (f tt tt)
      go true false f = refl
      go false true f = refl
      go false false f = refl

  pub compare_first : (compare p M N ≡ pos 1) ↔ T (preferred p M N)
  unfolding compare
  compare_first = go (preferred p M N) (preferred p N M)
    where
      go : (a b : Bool) → (cond a (pos 1) (cond b (negsuc 0) (pos 0)) ≡ pos 1) ↔ T a
      go true b = ((λ e. tt), (λ t. refl))
      go false true = ((λ e. let z : ◌≡◌ {A = ℕ} 0 1 = cc in omega arith), (λ t. absurd t))
      go false false = ((λ e. let z : ◌≡◌ {A = ℕ} 0 1 = cc in omega arith), (λ t. absurd t))

  pub compare_second : (compare p M N ≡ negsuc 0) ↔ T (preferred p N M)
  unfolding compare
  compare_second = go (preferred p M N) (preferred p N M) never_both
    where
      go : (a b : Bool) → (T a → T b → ⊥) → (cond a (pos 1) (cond b (negsuc 0) (pos 0)) ≡ negsuc 0) ↔ T b
      go true true f = absurd (f tt tt)
      go true false f = ((λ e. let z : ◌≡◌ {A = ℕ} 0 1 = cc in omega arith), (λ t. absurd t))
      go false true f = ((λ e. tt), (λ t. refl))
      go false false f = ((λ e. let z : ◌≡◌ {A = ℕ} 0 1 = cc in omega arith), (λ t. absurd t))

-- equal sets compare 0
pub compare_itself : (p : Program) (M : ℕ) → compare p M M ≡ pos 0
unfolding compare
compare_itself p M = go (preferred p M M) (preferred_irreflexive p M)
  where
    go : (a : Bool) → (T a → ⊥) → cond a (pos 1) (cond a (negsuc 0) (pos 0)) ≡ pos 0
    go true f = absurd (f tt)
    go false f = refl

-- ---- the number of a side settles it
pub one_side : (s t : Side) → side_number s ≡ side_number t → s ≡ t
one_side First First e = refl
one_side First Second e = absurd (cc)
one_side First Neither e = let z : ◌≡◌ {A = ℕ} 1 0 = cc in absurd (omega arith)
one_side Second First e = absurd (cc)
one_side Second Second e = refl
one_side Second Neither e = absurd (cc)
one_side Neither First e = let z : ◌≡◌ {A = ℕ} 0 1 = cc in absurd (omega arith)
one_side Neither Second e = absurd (cc)
one_side Neither Neither e = refl

pub sided_no : (r : Result Side Refusal) → no (sided r) ≡ no r
sided_no (Ok s) = refl
sided_no (Err e) = refl

pub one_sided : (r q : Result Side Refusal) → sided r ≡ sided q → r ≡ q
one_sided (Ok s) (Ok t) e = ap Ok (one_side s t cc)
one_sided (Ok s) (Err f) e = absurd cc
one_sided (Err d) (Ok t) e = absurd cc
one_sided (Err d) (Err f) e = ap Err cc
