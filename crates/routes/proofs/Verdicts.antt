-- The roads agree: for every page, flag word and set the reduct test and the here-and-there test answer the same. Assumes nothing.
use mathlib.Core.Path.{◌≡◌, ap}
use mathlib.Core.Bool.{false}
use mathlib.Core.List.{List}
use Prim.Native.Nat.{ℕ}
use Rattle.lpod.proofs.ReductIsHereThere.{reduct_is_here_there}
use Rattle.page.specs.Program.{program}
use Rattle.page.specs.Refusals.{test_no}
use Rattle.page.specs.Answers.{by_number}
use Rattle.routes.specs.Tests.{reduct_test, here_there_test}

pub reduct_says_here_there : (page : List ℕ) (flags set : ℕ) → reduct_test page flags set ≡ here_there_test page flags set
unfolding reduct_test here_there_test
reduct_says_here_there page flags set = ap (by_number false (test_no page flags set)) (reduct_is_here_there (program page flags) set)
