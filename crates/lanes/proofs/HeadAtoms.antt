-- The head atoms of rows as a set, gathered one row after the other. Assumes nothing.
use mathlib.Core.Path.{◌≡◌, refl, sym, ◌∙◌}
use mathlib.Core.List.{List, [], ◌∷◌, map}
use Prim.Native.Nat.{ℕ}
use Rattle.std.specs.List.{fold}
use Rattle.atoms.specs.Atoms.{union}
use Rattle.lpod.specs.Rule.{head_atoms}
use Rattle.words.specs.Coded.{rule_in, rules_in, atoms_of}
use Rattle.words.proofs.Sets.{atoms_none, atoms_append}
use Rattle.lanes.specs.Tried.{top_of}

pub all_heads : (rows : List ℕ) (s : ℕ) → fold (λ s w. union s (atoms_of (rule_in w).head)) s rows ≡ top_of (rules_in rows) s
unfolding top_of rules_in head_atoms
all_heads [] s = sym (atoms_none s [] refl)
all_heads (w ∷ rows) s =
    all_heads rows (union s (atoms_of (rule_in w).head)) ∙ sym (atoms_append s (rule_in w).head (head_atoms (map rule_in rows)))
