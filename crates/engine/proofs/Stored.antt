-- The degrees of the rows stored one after the other from the start of a slice. Assumes nothing.
use mathlib.Core.Path.{◌≡◌, refl, ap}
use mathlib.Core.List.{List, [], ◌∷◌, map}
use Prim.Native.Nat.{ℕ, suc, ◌≤◌}
use lib.ListN.{length, drop}
use lib.Seq.{sets}
use Rattle.lpod.specs.Degree.{degree}
use Rattle.words.specs.Coded.{rule_in, rules_in}
use Rattle.words.proofs.Rest.{rest_none}
use Rattle.lanes.specs.Entries.{over}
use Rattle.lanes.proofs.Stored.{over_sets}

-- as many degrees as there are rows
degrees_length : (s : ℕ) (words : List ℕ) → length (map (degree s) (rules_in words)) ≡ length words
unfolding rules_in
degrees_length s [] = refl
degrees_length s (w ∷ words) = ap suc (degrees_length s words)

pub degrees_over : (s : ℕ) (words out : List ℕ) → length words ≤ length out
    → sets out 0 (map (degree s) (rules_in words)) ≡ over (map (degree s) (rules_in words)) out
degrees_over s words out h = over_sets (map (degree s) (rules_in words)) out (rw (degrees_length s words) h)

pub degrees_past : (s : ℕ) (words out : List ℕ) (n : ℕ) → length words ≤ n → sets out n (map (degree s) (map rule_in (drop n words))) ≡ out
degrees_past s words out n h = rw (rest_none rule_in words n h)
