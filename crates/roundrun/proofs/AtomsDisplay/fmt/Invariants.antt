-- What is written so far: the atoms of the set below the number. Assumes nothing.
use Rattle.std.proofs.Common.{◌∷◌, filter}
use Rattle.std.specs.List.{flat_map, range_with_len}
use Rattle.std.specs.Fmt.{decimal, HasWritten, IsPlainFormatter}
use Rattle.atoms.specs.Atoms.{has}
use Rattle.roundrun.proofs.AtomsDisplay.fmt.Given as goal

abbrev pub invariant-loop-atom : goal.invariant-loop-atom
invariant-loop-atom g l =
    IsPlainFormatter l.initial.f → HasWritten g.W.Write.write_str_gives l.initial.f (flat_map (λ a. 32 ∷ decimal a) (filter (has l.self.0) (range_with_len 0 l.atom-counter))) l.f
