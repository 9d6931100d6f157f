-- For every call that C sees: any two words that its statement allows are equal, and so is the lent memory afterwards. Assumes nothing.
use mathlib.Core.Path.{◌≡◌}
use mathlib.Core.List.{List}
use Prim.Native.Nat.{ℕ}
use lib.Ieee.{Float}
use Rattle.page.specs.Letter.{letter_of}
use Rattle.engine.proofs.Determined.{one_answer}
use Rattle.writer.specs.Content.{Content}
use Rattle.capi.specs.Words.{pick_word, reduct_word, here_there_word, split_word, rounds_word, compare_word, SetsGiven, DegreesGiven, PageGiven, display_word}

pub pipeotter_pick : (page : List ℕ) (flags x y : ℕ) → x ≡ pick_word page flags → y ≡ pick_word page flags → x ≡ y
pipeotter_pick page flags x y = one_answer

pub pipeotter_reduct_test : (page : List ℕ) (flags set x y : ℕ) → x ≡ reduct_word page flags set → y ≡ reduct_word page flags set → x ≡ y
pipeotter_reduct_test page flags set x y = one_answer

pub pipeotter_here_there_test : (page : List ℕ) (flags set x y : ℕ) → x ≡ here_there_word page flags set → y ≡ here_there_word page flags set → x ≡ y
pipeotter_here_there_test page flags set x y = one_answer

pub pipeotter_split_test : (page : List ℕ) (flags set x y : ℕ) → x ≡ split_word page flags set → y ≡ split_word page flags set → x ≡ y
pipeotter_split_test page flags set x y = one_answer

pub pipeotter_rounds : (page : List ℕ) (flags set x y : ℕ) → x ≡ rounds_word page flags set → y ≡ rounds_word page flags set → x ≡ y
pipeotter_rounds page flags set x y = one_answer

pub pipeotter_compare : (page : List ℕ) (flags first second x y : ℕ) → x ≡ compare_word page flags first second → y ≡ compare_word page flags first second → x ≡ y
pipeotter_compare page flags first second x y = one_answer

pub pipeotter_letter : (number x y : ℕ) → x ≡ letter_of number → y ≡ letter_of number → x ≡ y
pipeotter_letter number x y = one_answer

pub pipeotter_display : (live second held : Float) (page : List ℕ) (flags x y : ℕ) → x ≡ display_word live second held page flags → y ≡ display_word live second held page flags → x ≡ y
pipeotter_display live second held page flags x y = one_answer

-- the lists of sets, all or best; the degrees; the page that is made
pub pipeotter_sets : (sets page : List ℕ) (flags : ℕ) (out : List ℕ) (x y : ℕ) (after later : List ℕ) → SetsGiven sets page flags out x after → SetsGiven sets page flags out y later
    → (x ≡ y) × (after ≡ later)
pipeotter_sets sets page flags out x y after later p q = (one_answer p.0 q.0, one_answer p.1 q.1)

pub pipeotter_degrees : (page : List ℕ) (flags set : ℕ) (out : List ℕ) (x y : ℕ) (after later : List ℕ) → DegreesGiven page flags set out x after → DegreesGiven page flags set out y later
    → (x ≡ y) × (after ≡ later)
pipeotter_degrees page flags set out x y after later p q = (one_answer p.0 q.0, one_answer p.1 q.1)

pub pipeotter_write : (c : Content) (out : List ℕ) (x y : ℕ) (after later : List ℕ) → PageGiven c out x after → PageGiven c out y later → (x ≡ y) × (after ≡ later)
pipeotter_write c out x y after later p q = (one_answer p.0 q.0, one_answer p.1 q.1)
