-- `bars_hold` asks each row, the first row of the page first: the choice from its end on. Assumes nothing.
use Rattle.std.proofs.Common.{rules, ◌≡◌, reverse}
use mathlib.Core.Bool.{true, false}
use borrow.Author.Tests.{tests}
use native.Mathlib.Omega.{arith}
use Rattle.std.proofs.lemmas.Bool.{MatchBool-at_true, MatchBool-at_false}
use Rattle.std.proofs.lemmas.Iterator.{cases_from_all}
use Rattle.std.proofs.lemmas.Iterator.Adapters.{YieldsList-from_rev_slice}
use Rattle.lpod.specs.Split.{bar_holds}
use Rattle.lpod.proofs.Each.{all_every}
use Rattle.routes.specs.Choice.{chosen, all_chosen}
use Rattle.routes.specs.declared.split.Chosen.{Chosen}
use Rattle.routes.proofs.split.bars_hold.Goals as goal

none : Chosen
none = record { row = 0; option = 0 }

pub returns : goal.returns
unfolding all_chosen
returns c =
    let a = c.args in
    let h = cases_from_all _ _ c.all.result (λ (x : Chosen). bar_holds a.set (chosen x) ≡ true) (λ (x : Chosen). bar_holds a.set (chosen x) ≡ false)
    c.all.ensures.ran (YieldsList-from_rev_slice a.choice.now cc) (λ x q k. search (rules, tests)) (λ x q k. search (rules, tests)) in
    all_every (bar_holds a.set) chosen none (reverse a.choice.now) c.all.result
    (λ e k b. MatchBool-at_true _ _ e h k none (omega arith) b)
    (λ e. let f = MatchBool-at_false _ _ e h in (f.0, f.1, f.2 none))
