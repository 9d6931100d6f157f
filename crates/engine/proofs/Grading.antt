-- The statement of the call for the degrees, for each of its ways out. Assumes nothing.
use Rattle.std.specs.Prelude.{Ok, Err}
use mathlib.Core.Path.{◌≡◌, ap, ◌∙◌}
use mathlib.Core.Bool.{Bool, true, false, not}
use mathlib.Core.List.{List, [], ◌∷◌, map}
use Prim.Native.Nat.{ℕ, ◌≤◌, ◌<◌}
use native.Mathlib.Omega.{arith}
use lib.Dec.{ltb}
use lib.ListN.{length}
use borrow.Author.Tests.{lt-ltb, le-ltb, ne_eqb}
use Rattle.lpod.specs.Rule.{Rule}
use Rattle.lpod.specs.Answer.{answer}
use Rattle.lpod.specs.Degree.{degree, degrees}
use Rattle.page.specs.Fields.{row_count}
use Rattle.page.specs.Program.{program}
use Rattle.page.specs.Refusals as lists
use Rattle.page.specs.Refusals.{refuse, first_that, test_refusals, test_no}
use Rattle.page.specs.Answers.{number}
use Rattle.page.specs.declared.refusal.Refusal.{Refusal}
use Rattle.page.specs.declared.refusal.Refusal.TheVariants.{NoRoom, NotAnAnswerSet}
use Rattle.page.proofs.Refusals.{test_numbered}
use Rattle.page.proofs.Refusing.{above_zero, first_stands, then_rest, refused_here, given}
use Rattle.words.specs.Coded.{rules_in, program_in, row_words, pair_words}
use Rattle.words.proofs.Lent.{test_page, lent_count, lent_rows, lent_answer}
use Rattle.lanes.specs.Entries.{over}
use Rattle.engine.specs.Degrees.{degrees_refusals, degrees_no, degrees_after, DegreesSays}

module _ (page : List ℕ) (flags set : ℕ) (out : List ℕ) where
  last : List lists.Refusal
  last = refuse 11 (ltb (length out) (row_count page)) ∷ refuse 13 (not (answer (program page flags) set)) ∷ []

  -- a refused call
  refused_by : (e : Refusal) → number e ≡ degrees_no page flags set (length out) → DegreesSays page flags set out out (Err e)
  unfolding degrees_after
  refused_by e n = (refused_here 0 (row_count page) _ e n, rw (← n, ne_eqb (number e) 0 (λ z. omega (arith, above_zero e, z))))

  -- by the page, the flag word or the set
  pub grading_tested : (e : Refusal) → number e ≡ test_no page flags set → DegreesSays page flags set out out (Err e)
  unfolding degrees_no degrees_refusals test_no last
  grading_tested e q = refused_by e (first_stands (test_refusals page flags set) last (test_numbered page flags set) e q)

  -- by the last two, as they are found of the words of an accepted page
  module _ (z : 0 ≡ test_no page flags set) (rows : List ℕ) (er : rows ≡ row_words page) where
    from_last : (n : ℕ) → n ≡ first_that last → n ≡ degrees_no page flags set (length out)
    unfolding degrees_no degrees_refusals test_no last
    from_last n = then_rest (test_refusals page flags set) last (test_numbered page flags set) n z

    many : length rows ≡ row_count page
    many = lent_count page (test_page page flags set z) rows er

    pub grading_short : length out < length rows → DegreesSays page flags set out out (Err NoRoom)
    unfolding first_that last
    grading_short f = refused_by NoRoom (from_last 11 (rw (lt-ltb (length out) (row_count page) (omega (arith, f, many)))))

    module _ (f : length rows ≤ length out) (pairs : List ℕ) (ep : pairs ≡ pair_words page) (b : Bool) (eb : b ≡ answer (program_in rows pairs flags) set) where
      room : ltb (length out) (row_count page) ≡ false
      room = le-ltb (length out) (row_count page) (omega (arith, f, many))

      told : b ≡ answer (program page flags) set
      told = eb ∙ ap (λ (q : ℕ → Bool). q set) (lent_answer page (test_page page flags set z) rows er pairs ep flags)

      pub grading_no_answer : b ≡ false → DegreesSays page flags set out out (Err NotAnAnswerSet)
      unfolding first_that last
      grading_no_answer t = refused_by NotAnAnswerSet (from_last 13 (rw (room, ← told, t)))

      -- the call gives the degrees
      pub grading_given : b ≡ true → (count : ℕ) → count ≡ length rows → (after : List ℕ) → after ≡ over (map (degree set) (rules_in rows)) out
          → DegreesSays page flags set out after (Ok count)
      unfolding first_that last degrees_after degrees program
      grading_given t count ec after ea =
          let n = from_last 0 (rw (room, ← told, t)) in
          let rules = lent_rows page (test_page page flags set z) rows er in
          (given 0 (row_count page) _ n count (ec ∙ many), ea ∙ ap (λ (P : List Rule). over (map (degree set) P) out) rules ∙ rw (← n))
