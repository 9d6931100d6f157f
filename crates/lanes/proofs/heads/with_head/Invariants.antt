-- `heads::with_head` adds one head atom after the other. Assumes nothing.
use mathlib.Core.Path.{◌≡◌}
use lib.ListN.{drop}
use Rattle.atoms.specs.Atoms.{union}
use Rattle.words.specs.Coded.{rule_in, atoms_of}
use Rattle.lanes.proofs.heads.with_head.Given as goal

-- the set so far, with the atoms to come, is s with the whole head
abbrev pub invariant-loop-k : goal.invariant-loop-k
invariant-loop-k l = union l.s (atoms_of (rule_in l.word).head) ≡ union l.t (atoms_of (drop l.k (rule_in l.word).head))
