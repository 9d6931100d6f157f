-- The panel letter of a refusal number: P for page faults, C for call faults, F for findings, a space for all else.
use Rattle.std.specs.Prelude.{◌&&◌, ◌||◌, cond, ℕ, leb, eqb}

unfoldable pub letter_of : ℕ → ℕ
letter_of n = cond (leb 1 n && leb n 8) 80 (cond (eqb n 9 || (leb 11 n && leb n 12)) 67 (cond (eqb n 10 || eqb n 13) 70 32))
