-- `pagerun::say_set` prints the degrees that are stored, one for each row of the page. Assumes nothing.
use Rattle.std.proofs.Common.{◌≡◌, ℕ, ◌≤◌, List, length, length-take, arith, sym, ap, ◌∙◌}
use Rattle.std.proofs.lemmas.List.{length-map}
use Rattle.std.specs.Prelude.{Result, Ok}
use Rattle.std.specs.Result.{result_unwrap_or}
use Rattle.lpod.specs.Degree.{degrees}
use Rattle.page.specs.Answers.{by_number}
use Rattle.page.specs.Fields.{row_count}
use Rattle.page.specs.Program.{program, rows_of}
use Rattle.page.specs.declared.refusal.Refusal.{Refusal}
use Rattle.words.proofs.Lent.{page_rows_many}
use Rattle.lanes.specs.Entries.{stored}
use Rattle.engine.specs.Degrees.{degrees_no, degrees_after, DegreesSays}
use Rattle.engine.proofs.Given.{count_fits}
use Rattle.pagerun.proofs.say_set.Goals as goal

degrees_many : (page : List ℕ) (flags set : ℕ) → row_count page ≡ length (degrees (program page flags) set)
unfolding degrees program rows_of
degrees_many page flags set = sym (simp (length-map, page_rows_many))

degrees_fit : (page : List ℕ) (flags set : ℕ) (out after : List ℕ) (r : Result ℕ Refusal) → DegreesSays page flags set out after r → length after ≡ length out
    → result_unwrap_or r 0 ≤ length after
unfolding degrees_after stored
degrees_fit page flags set out after r says same =
    let n = degrees_no page flags set (length out) in
    count_fits n (degrees (program page flags) set) out after r (says.0 ∙ ap (by_number 0 n) (degrees_many page flags set)) says.1 same

pub slice_bounds-degrees-end-in-Ok : goal.slice_bounds-degrees-end-in-Ok
slice_bounds-degrees-end-in-Ok g c = omega (arith, c.from.ensures, degrees_fit _ _ _ _ _ (Ok c.in-Ok.many) c.in-Ok.ensures c.degrees.auto.out)

pub slice_bounds-degrees-end-in-Ok-2 : goal.slice_bounds-degrees-end-in-Ok-2
slice_bounds-degrees-end-in-Ok-2 g c =
    simp length-take (omega (arith, c.from.ensures, degrees_fit _ _ _ _ _ (Ok c.in-Ok.many) c.in-Ok.ensures c.degrees.auto.out))
