-- What the calls give to C: 65,536 times the refusal number, plus the value. For the display that is the upper half of what it gives.
use Rattle.std.specs.Prelude.{◌≡◌, Bool, cond, List, ℕ, zero, suc, ◌+◌, ◌*◌, ℤ, pos, negsuc, length, Float}
use Rattle.std.specs.Float.{nan}
use Rattle.lpod.specs.Preferred.{compare}
use Rattle.lpod.specs.Best.{pick}
use Rattle.page.specs.Fields.{row_count}
use Rattle.page.specs.Program.{program}
use Rattle.routes.specs.Tests.{reduct_test, here_there_test}
use Rattle.routes.specs.Split.{split_test}
use Rattle.routes.specs.Rounds.{rounds_to}
use Rattle.lanes.specs.Entries.{stored}
use Rattle.engine.specs.Calls.{picked, pick_no, listed, list_no}
use Rattle.engine.specs.Degrees.{graded, degrees_no, degrees_after}
use Rattle.engine.specs.Compare.{compared, compare_no}
use Rattle.display.specs.Readings.{bits_of}
use Rattle.display.specs.Shows.{reading_of, reading_or, shown_by, display_no, displayed}
use Rattle.display.specs.declared.Readings.{Readings}
use Rattle.display.specs.declared.Shown.{Shown}
use Rattle.display.specs.declared.Shown.TheVariants.{Live, Second, Held, NoNumber}
use Rattle.writer.specs.Content.{Content, encode}
use Rattle.writer.specs.Writes.{write_no, written}

unfoldable pub word : ℕ → ℕ → ℕ
word n value = 65536 * n + value

-- yes is 1, no is 0
unfoldable pub bit : Bool → ℕ
bit b = cond b 1 0

-- the first preferred is 1, the second 2, neither 0
unfoldable pub side_value : ℤ → ℕ
side_value (pos zero) = 0
side_value (pos (suc n)) = 1
side_value (negsuc n) = 2

unfoldable pub pick_word : List ℕ → ℕ → ℕ
pick_word page flags = let r = picked (pick_no page flags) (pick (program page flags)) in word r.no r.value

unfoldable pub reduct_word : List ℕ → ℕ → ℕ → ℕ
reduct_word page flags set = let r = reduct_test page flags set in word r.no (bit r.value)

unfoldable pub here_there_word : List ℕ → ℕ → ℕ → ℕ
here_there_word page flags set = let r = here_there_test page flags set in word r.no (bit r.value)

unfoldable pub split_word : List ℕ → ℕ → ℕ → ℕ
split_word page flags set = let r = split_test page flags set in word r.no r.count

unfoldable pub rounds_word : List ℕ → ℕ → ℕ → ℕ
rounds_word page flags set = let r = rounds_to page flags set in word r.no r.value

unfoldable pub compare_word : List ℕ → ℕ → ℕ → ℕ → ℕ
compare_word page flags first second =
    let r = compared (compare_no page flags first second) (compare (program page flags) first second) in word r.no (side_value r.value)

-- a list of sets: the word, and the lent slice afterwards
unfoldable pub sets_word : List ℕ → List ℕ → ℕ → List ℕ → ℕ
sets_word sets page flags out = let r = listed (list_no page flags sets out) sets in word r.no r.value

abbrev pub SetsGiven : List ℕ → List ℕ → ℕ → List ℕ → ℕ → List ℕ → Type 0
SetsGiven sets page flags out r after = (r ≡ sets_word sets page flags out) × (after ≡ stored (list_no page flags sets out) sets out)

-- degrees: the word, and the lent slice afterwards
unfoldable pub degrees_word : List ℕ → ℕ → ℕ → List ℕ → ℕ
degrees_word page flags set out = let r = graded (degrees_no page flags set (length out)) (row_count page) in word r.no r.value

abbrev pub DegreesGiven : List ℕ → ℕ → ℕ → List ℕ → ℕ → List ℕ → Type 0
DegreesGiven page flags set out r after = (r ≡ degrees_word page flags set out) × (after ≡ degrees_after page flags set out)

-- a page that is made: the word, and the lent slice afterwards
unfoldable pub write_word : Content → List ℕ → ℕ
write_word c out = let r = written (write_no c (length out)) c in word r.no r.value

abbrev pub PageGiven : Content → List ℕ → ℕ → List ℕ → Type 0
PageGiven c out r after = (r ≡ write_word c out) × (after ≡ stored (write_no c (length out)) (encode c) out)

-- the display: the case that is shown; and, with it, the bits of its reading, those of a NaN where there is none
unfoldable pub case_value : Shown → ℕ
case_value (Live x) = 1
case_value (Second x) = 2
case_value (Held x) = 3
case_value NoNumber = 0

unfoldable pub shown_word : ℕ → Shown → ℕ
shown_word n s = 4294967296 * word n (case_value s) + bits_of (reading_or nan (reading_of s))

unfoldable pub display_word : Float → Float → Float → List ℕ → ℕ → ℕ
display_word live second held page flags =
    let r : Readings = record { live = live; second = second; held = held } in
    let d = displayed (display_no r page flags) (shown_by r page flags) in
    shown_word d.no d.value
