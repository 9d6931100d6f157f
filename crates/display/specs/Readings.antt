-- What is said of one reading, a single-precision number.
use Rattle.std.specs.Prelude.{Bool, true, false, ℕ, Float}
use Rattle.std.specs.Float.{nan, inf, fin, binary32}
use Rattle.std.specs.Float.Ieee.{to_bits, of_bits}

-- neither infinite nor not a number
unfoldable pub finite : Float → Bool
finite nan = false
finite (inf s) = false
finite (fin s m e) = true

-- its 32 bits, and the reading that 32 bits are. All patterns of a NaN are one reading, which has the bits of the plain quiet NaN.
abbrev pub bits_of : Float → ℕ
bits_of x = to_bits binary32 x

abbrev pub of_word : ℕ → Float
of_word n = of_bits binary32 n
