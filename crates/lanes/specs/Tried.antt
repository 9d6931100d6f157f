-- Which sets are tried: those between the flags and the flags with all head atoms. No answer set lies elsewhere.
use Rattle.std.specs.Prelude.{Bool, ◌&&◌, List, ℕ}
use Rattle.atoms.specs.Atoms.{inside, union}
use Rattle.lpod.specs.Rule.{Rule, head_atoms}
use Rattle.words.specs.Coded.{atoms_of}

-- the flags with every atom that stands in a head
unfoldable pub top_of : List Rule → ℕ → ℕ
top_of P flags = union flags (atoms_of (head_atoms P))

-- s lies between the flags and top, and passes a test
unfoldable pub tried : (ℕ → Bool) → ℕ → ℕ → ℕ → Bool
tried passes flags top s = inside flags s && (inside s top && passes s)
