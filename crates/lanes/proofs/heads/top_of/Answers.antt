-- `heads::top_of` gathers the heads from the flags on. Assumes nothing.
use Rattle.std.proofs.Common.{rules, ◌≡◌, ◌∙◌, ℕ}
use Rattle.std.specs.List.{fold}
use Rattle.atoms.specs.Atoms.{union}
use Rattle.words.specs.Coded.{rule_in, atoms_of}
use Rattle.lanes.proofs.HeadAtoms.{all_heads}
use Rattle.lanes.proofs.heads.top_of.Goals as goal

pub returns : goal.returns
returns c =
    let e : c.fold.result ≡ fold (λ (s w : ℕ). union s (atoms_of (rule_in w).head)) c.args.flags c.args.rows.now = search rules in
    e ∙ all_heads c.args.rows.now c.args.flags
