-- `showrun::said` takes the input apart and asks the display. Assumes nothing.
use Rattle.std.specs.Prelude.{Result}
use mathlib.Core.Path.{◌≡◌, ◌∙◌}
use mathlib.Core.List.{List, [], ◌∷◌}
use Prim.Native.Nat.{ℕ}
use native.Mathlib.Omega.{arith}
use lib.ListN.{length, take, drop, get_or}
use lib.Seq.{get_or-take}
use lib.Ieee.{Float}
use Rattle.std.specs.Int.{w16, from_le_bytes}
use borrow.Author.Tests.{lt-ltb, le-ltb}
use Rattle.page.specs.Fields.{word_at}
use Rattle.page.specs.Answers.{by_number}
use Rattle.page.specs.declared.refusal.Refusal.{Refusal}
use Rattle.display.specs.Shows.{DisplaySays}
use Rattle.display.specs.declared.Shown.{Shown}
use Rattle.showrun.specs.Says.{reading_at, readings_of, said_of}
use Rattle.showrun.proofs.said.Goals as goal

-- the display's answer for what the input was taken apart into
module _ (input : List ℕ) where
  asked : (d : Result Shown Refusal) (x y z : Float) (page : List ℕ) (flags : ℕ) → x ≡ reading_at input 0 2 → y ≡ reading_at input 4 6 → z ≡ reading_at input 8 10 → page ≡ drop 14 input → flags ≡ word_at input 12
      → DisplaySays (record { live = x; second = y; held = z }) page flags d → DisplaySays (readings_of input) (drop 14 input) (word_at input 12) d
  unfolding readings_of
  asked d x y z page flags is_live is_second is_held is_page is_flags says = rw (← is_live, ← is_second, ← is_held, ← is_page, ← is_flags) says

pub returns-in_default : goal.returns-in_default
unfolding said_of by_number
returns-in_default c = rw (lt-ltb (length c.args.input.now) 14 (omega (arith, c.in_default.ensures)))

flag_word : (input : List ℕ) → from_le_bytes w16 (get_or (take 14 input) 12 0 ∷ get_or (take 14 input) 13 0 ∷ []) ≡ word_at input 12
unfolding word_at
flag_word input = grind (arith, get_or-take)

pub returns : goal.returns
unfolding said_of
returns c =
    let input = c.args.input.now in
    let split = c.in-Some.ensures.cases in
    rw (le-ltb (length input) 14 (omega (arith, split.2)))
    (asked input c.display.result c.reading_at.result c.reading_at-2.result c.reading_at-3.result _ c.from_le_bytes-flags.result c.reading_at.ensures c.reading_at-2.ensures
    c.reading_at-3.ensures split.1 (c.from_le_bytes-flags.ensures ∙ rw split.0 (flag_word input)) c.display.ensures)
