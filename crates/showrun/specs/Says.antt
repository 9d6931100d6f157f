-- What the program reads and says. Its input is three readings of four bytes, a flag word of two, and the page; the low byte first.
use Rattle.std.specs.Prelude.{◌≡◌, cond, List, [], ◌∷◌, ℕ, ◌+◌, ◌*◌, ltb, length, drop, Float, Result}
use Rattle.page.specs.Answers.{answered}
use Rattle.page.specs.Fields.{word_at}
use Rattle.page.specs.declared.refusal.Refusal.{Refusal}
use Rattle.display.specs.Readings.{of_word}
use Rattle.display.specs.Shows.{shown_by, display_no, Displayed, displayed}
use Rattle.display.specs.declared.Readings.{Readings}
use Rattle.display.specs.declared.Shown.{Shown}
use Rattle.display.specs.declared.Shown.TheVariants.{Live, Second, Held, NoNumber}

-- the reading whose bits are the words at two places, the low one first
unfoldable pub reading_at : List ℕ → ℕ → ℕ → Float
reading_at input low high = of_word (word_at input low + 65536 * word_at input high)

unfoldable pub readings_of : List ℕ → Readings
readings_of input = record { live = reading_at input 0 2; second = reading_at input 4 6; held = reading_at input 8 10 }

-- what the display says; an input that ends before the page has none, and is refused by 1
unfoldable pub said_of : List ℕ → Displayed
said_of input =
    let r = readings_of input in
    let page = drop 14 input in
    let flags = word_at input 12 in
    cond (ltb (length input) 14) (displayed 1 NoNumber) (displayed (display_no r page flags) (shown_by r page flags))

-- the code's answer d to an input
abbrev pub InputSays : List ℕ → Result Shown Refusal → Type 0
InputSays input d = answered NoNumber d ≡ said_of input

-- the name of a case, as it is printed: "live", "second", "held", "no number"
unfoldable pub name_of : Shown → List ℕ
name_of (Live x) = 108 ∷ 105 ∷ 118 ∷ 101 ∷ []
name_of (Second x) = 115 ∷ 101 ∷ 99 ∷ 111 ∷ 110 ∷ 100 ∷ []
name_of (Held x) = 104 ∷ 101 ∷ 108 ∷ 100 ∷ []
name_of NoNumber = 110 ∷ 111 ∷ 32 ∷ 110 ∷ 117 ∷ 109 ∷ 98 ∷ 101 ∷ 114 ∷ []
