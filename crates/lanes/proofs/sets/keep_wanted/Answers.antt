-- `sets::keep_wanted`: the rows that rank, and the best by them. Assumes nothing.
use mathlib.Core.Path.{◌≡◌, refl, ap, ◌∙◌}
use mathlib.Core.Bool.{false}
use mathlib.Core.List.{List}
use Prim.Native.Nat.{ℕ}
use Rattle.lpod.specs.Lists.{keep}
use Rattle.lanes.specs.Seek.{all_from}
use Rattle.lanes.specs.Rank.{over, ranks}
use Rattle.lanes.specs.Search.{sought_best}
use Rattle.lanes.specs.declared.rules.Rules.{Rules}
use denote.Enum.Bare.{sameb}
use Rattle.lanes.specs.contracts.sets.Which.{the_type}
use Rattle.lanes.specs.declared.sets.Which.{Which}
use Rattle.lanes.specs.declared.sets.Which.TheVariants.{All, Best}
use Rattle.lanes.proofs.AllSets.{same_all}
use Rattle.lanes.proofs.sets.keep_wanted.Goals as goal

not_all : (which : Which) → false ≡ sameb the_type which All → which ≡ Best
not_all All e = cc
not_all Best e = refl

pub returns : goal.returns
returns c =
    let k = c.keep_best.ensures in
    let n = c.new-ranking in
    let e : n.result.rules.rows.now ≡ keep ranks c.args.rules.rows.now = ap (λ (r : Rules). r.rows.now) n.ensures.1 ∙ c.rules.ensures.0 ∙ c.add_ranking.ensures in
    let b = same_all _ _ k.2 ∙ ap (λ (l : List ℕ). all_from (sought_best (over l) c.args.marks.now) 0) e in
    (k.0, rw n.ensures.2 at k.1, rw (not_all c.args.which c.if-eq.ensures) b)
