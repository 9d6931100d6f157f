-- A set of atoms is a number: bit i is atom i. What is said of one set, and of two.
use Rattle.std.specs.Prelude.{Bool, cond, ℕ, ◌/◌, ◌%◌, ◌^◌, T, eqb, ltb}
use Rattle.std.specs.Int.Bits.{bit_and, bit_or}
use Rattle.std.specs.Int.Count.{ones, count_trailing_zeros}

-- atom i is in the set s
unfoldable pub has : ℕ → ℕ → Bool
has s i = eqb (s / 2 ^ i % 2) 1

-- s and atom j
abbrev pub insert : ℕ → ℕ → ℕ
insert s j = bit_or s (2 ^ j)

-- s and atom j, where there is such an atom in 16 bits
unfoldable pub with_atom : ℕ → ℕ → ℕ
with_atom s j = cond (ltb j 16) (insert s j) s

-- the atoms of a and of b; those of both
abbrev pub union : ℕ → ℕ → ℕ
union a b = bit_or a b

abbrev pub common : ℕ → ℕ → ℕ
common a b = bit_and a b

-- each atom of a is in b: as it is said, and as it is computed
abbrev pub Inside : ℕ → ℕ → Type 0
Inside a b = (i : ℕ) → T (has a i) → T (has b i)

unfoldable pub inside : ℕ → ℕ → Bool
inside a b = eqb (common a b) a

-- how many atoms s has; the lowest of them, 16 where s is empty
abbrev pub how_many : ℕ → ℕ
how_many s = ones s

abbrev pub lowest : ℕ → ℕ
lowest s = count_trailing_zeros 16 s
