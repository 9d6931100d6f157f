-- One bit for each set: bit j of word b is the set 64 b + j. A set past the last word has none.
use Rattle.std.specs.Prelude.{◌≡◌, Bool, false, List, ℕ, ◌+◌, ◌*◌, ◌/◌, ◌%◌, ◌≤◌, ◌<◌, T, length, get_or}
use Rattle.std.proofs.lemmas.List.Edits.{sets}
use Rattle.atoms.specs.Atoms.{has, inside}
use Rattle.lpod.specs.Lists.{keep, numbers}

unfoldable pub marked : List ℕ → ℕ → Bool
marked marks s = has (get_or marks (s / 64) 0) (s % 64)

-- a word for each block up to top's, and no mark
abbrev pub Blank : List ℕ → ℕ → Type 0
Blank marks top = (length marks ≡ top / 64 + 1) × ((s : ℕ) → marked marks s ≡ false)

-- only blocks between low and high have marks
abbrev pub Within : List ℕ → ℕ → ℕ → Type 0
Within marks low high = (s : ℕ) → T (marked marks s) → T (inside low (s / 64)) × T (inside (s / 64) high)

-- ---- the marked sets of one block, stored from place k on: there is room for them; what the slice holds afterwards, and the place after them
abbrev pub in_block : List ℕ → ℕ → List ℕ
in_block marks b = keep (marked marks) (numbers (64 * b) 64)

abbrev pub BlockFits : List ℕ → ℕ → ℕ → List ℕ → Type 0
BlockFits marks b k out = (b < 1024) × (b < length marks) × (k + length (in_block marks b) ≤ 65536) × (k + length (in_block marks b) ≤ length out)

abbrev pub BlockStored : List ℕ → ℕ → ℕ → List ℕ → ℕ → List ℕ → Type 0
BlockStored marks b k out r after = (after ≡ sets out k (in_block marks b)) × (r ≡ k + length (in_block marks b))
