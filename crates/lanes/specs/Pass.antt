-- How the rounds go in one lane: the rows fire one after the other, each on what the rows before it made. I is the lane's set, c what is reached.
-- No definition of an answer set rests on these: they stand between the code and the least set.
use Rattle.std.specs.Prelude.{Bool, false, ◌&&◌, ◌||◌, not, cond, List, [], ◌∷◌, ℕ}
use Rattle.atoms.specs.Atoms.{has, insert}
use Rattle.lpod.specs.Rule.{Rule}
use Rattle.lpod.specs.Satisfied.{all_in, body_holds}

-- where t holds, the first of the atoms that is in I goes into c
unfoldable pub put : List ℕ → ℕ → Bool → ℕ → ℕ
put [] I t c = c
put (h ∷ hs) I t c = put hs I (t && not (has I h)) (cond (t && has I h) (insert c h) c)

-- a row fires where its body holds in I and its positive part is reached
unfoldable pub pass_row : Rule → ℕ → ℕ → ℕ
pass_row r I c = put r.head I (body_holds r I && all_in r.pos c) c

unfoldable pub pass : List Rule → ℕ → ℕ → ℕ
pass [] I c = c
pass (r ∷ P) I c = pass P I (pass_row r I c)

-- some row whose body holds in I does not fire in this pass, since its positive part is not reached
unfoldable pub waits : List Rule → ℕ → ℕ → Bool
waits [] I c = false
waits (r ∷ P) I c = (body_holds r I && not (all_in r.pos c)) || waits P I (pass_row r I c)

-- something goes into c that was not there: of one row, and in a pass
unfoldable pub adds : List ℕ → ℕ → Bool → ℕ → Bool
adds [] I t c = false
adds (h ∷ hs) I t c = ((t && has I h) && not (has c h)) || adds hs I (t && not (has I h)) (cond (t && has I h) (insert c h) c)

unfoldable pub row_adds : Rule → ℕ → ℕ → Bool
row_adds r I c = adds r.head I (body_holds r I && all_in r.pos c) c

unfoldable pub grows : List Rule → ℕ → ℕ → Bool
grows [] I c = false
grows (r ∷ P) I c = row_adds r I c || grows P I (pass_row r I c)
