-- What is written so far: the degrees before the place in the list. Assumes nothing.
use Rattle.std.proofs.Common.{◌∷◌, take}
use Rattle.std.specs.List.{flat_map}
use Rattle.std.specs.Fmt.{decimal, HasWritten, IsPlainFormatter}
use Rattle.pagerun.proofs.DegreesDisplay.fmt.Given as goal

abbrev pub invariant-loop-degree : goal.invariant-loop-degree
invariant-loop-degree g l =
    IsPlainFormatter l.initial.f → HasWritten g.W.Write.write_str_gives l.initial.f (flat_map (λ x. 32 ∷ decimal x) (take l.degree-index l.self.0.now)) l.f
