-- `capi::pipeotter_display` is the display's number, case and bits as one word. Assumes nothing.
use Rattle.std.proofs.Common.{rules, refl, ◌≡◌, ap, ◌∙◌}
use Prim.Native.Nat.{ℕ, ◌+◌, ◌*◌}
use lib.Ieee.{Float, nan}
use Rattle.display.specs.Readings.{bits_of}
use Rattle.display.specs.Shows.{Displayed, reading_of, reading_or}
use Rattle.display.specs.declared.Shown.{Shown}
use Rattle.display.specs.declared.Shown.TheVariants.{NoNumber}
use Rattle.page.specs.Answers.{answered}
use Rattle.capi.specs.Words.{word, case_value, shown_word, display_word}
use Rattle.capi.proofs.Mapped.{word_mapped, taken}
use Rattle.capi.proofs.pipeotter_display.Goals as goal

blank_case : case_value NoNumber ≡ 0
unfolding case_value
blank_case = refl

halves : (d : Displayed) (u b : ℕ) (s : Shown) (x : Float) → u ≡ word d.no (case_value d.value) → s ≡ d.value → x ≡ reading_or nan (reading_of s) → b ≡ bits_of x
    → 4294967296 * u + b ≡ shown_word d.no d.value
unfolding shown_word
halves d u b s x is_upper is_shown is_reading is_bits = rw (is_bits, is_reading, is_shown, is_upper)

pub returns : goal.returns
unfolding display_word
returns c =
    let r = c.display-answer.result in
    let upper = c.from-upper.ensures ∙ c.word.ensures ∙ word_mapped NoNumber case_value blank_case r c.map.result (λ a h. search rules) (λ e h. search rules) _ refl in
    halves (answered NoNumber r) _ _ c.unwrap_or-shown.result c.reading_of.result upper (c.unwrap_or-shown.ensures ∙ taken NoNumber r) c.reading_of.ensures
    (c.from.ensures ∙ c.bits_of.ensures)
    ∙ ap (λ (y : Displayed). shown_word y.no y.value) c.display-answer.ensures
