-- Sixty-four sets at once. Block b has the sets 64 b to 64 b + 63. A word of 64 bits says yes or no of each: bit j, lane j, is for the set 64 b + j.
use Rattle.std.specs.Prelude.{◌≡◌, Bool, true, false, ◌&&◌, not, cond, List, [], ◌∷◌, ℕ, ◌+◌, ◌*◌, ◌%◌, ◌<◌, length, get_or}
use Rattle.atoms.specs.Atoms.{has}
use Rattle.lpod.specs.Satisfied.{all_in, none_in}
use Rattle.words.specs.Coded.{pos_set, neg_set, atoms_in}

-- in each lane the word says what q says of the lane's set
abbrev pub Says : ℕ → ℕ → (ℕ → Bool) → Type 0
Says b x q = (j : ℕ) → j < 64 → has x j ≡ q (64 * b + j)

-- b, turned over where t says so
abbrev pub turn : Bool → Bool → Bool
turn true b = not b
turn false b = b

-- a word for each atom is 64 sets: atom a is in the set of lane j where bit j of word a is set
unfoldable pub column : List ℕ → ℕ → ℕ
column [] j = 0
column (x ∷ xs) j = cond (has x j) 1 0 + 2 * column xs j

-- the words are those of block b
abbrev pub Block : ℕ → List ℕ → Type 0
Block b w = (length w ≡ 16) × ((j : ℕ) → j < 64 → column w j ≡ 64 * b + j)

-- ---- what of a row's body does not depend on the block: the part of it among the lowest six atoms. The lanes in which that part holds
abbrev pub LowBody : ℕ → ℕ → Type 0
LowBody row x = (j : ℕ) → j < 64 → has x j ≡ (all_in (atoms_in (pos_set row % 64)) j && none_in (atoms_in (neg_set row % 64)) j)

abbrev pub LowBodies : List ℕ → List ℕ → Type 0
LowBodies rows lows = (n : ℕ) → n < length rows → LowBody (get_or rows n 0) (get_or lows n 0)
