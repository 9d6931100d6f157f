-- What a call lends to a test: the words of its page. So each test answers for the page's program. Assumes nothing.
use mathlib.Core.Path.{◌≡◌, refl, sym, ap, ◌∙◌}
use mathlib.Core.List.{List, [], ◌++◌}
use Prim.Native.Nat.{ℕ, zero, suc, ◌+◌, ◌≤◌}
use native.Mathlib.Omega.{arith}
use lib.ListN.{length, take}
use lib.Seq.{length-take-le}
use Rattle.lpod.specs.Rule.{Rule, raised, rules}
use Rattle.lpod.specs.Answer.{answer}
use Rattle.lpod.specs.Preferred.{preferred}
use Rattle.lpod.specs.HereThere.{here_there}
use Rattle.lpod.specs.Split.{split_count}
use Rattle.std.proofs.lemmas.List.{length-map}
use Rattle.page.specs.Fields.{row_count, literals_at, literals_of}
use Rattle.page.specs.Program.{rows_from, rows_of, program}
use Rattle.page.specs.Refusals.{page_no, test_no}
use Rattle.page.proofs.AcceptedAtoms.{flag_page, test_flags}
use Rattle.words.specs.Coded.{rules_in, rules_with, program_in, row_word, row_total, row_words, pair_words}
use Rattle.words.proofs.Back.{row_most, rows_back, same_answer, same_preferred, same_here_there, same_split}

-- the first n words of a slice are n words
pub words_many : (n : ℕ) (words : List ℕ) → n ≤ length words → n ≡ length (take n words)
words_many n words h = sym (length-take-le n words h)

pub words_most : (n most : ℕ) (words : List ℕ) → n ≤ length words → n ≤ most → length (take n words) ≤ most
words_most n most words h l = omega (arith, words_many n words h)

-- the words of the rows at the start of an array
pub rows_lent : (page : List ℕ) (n : ℕ) (words : List ℕ) → n ≡ row_total page → take (row_total page) words ≡ row_words page → take n words ≡ row_words page
rows_lent page n words e h = ap (λ (k : ℕ). take k words) e ∙ h

-- a call's number is 0 only where the page is accepted
pub test_page : (page : List ℕ) (flags set : ℕ) → 0 ≡ test_no page flags set → page_no page ≡ 0
test_page page flags set e = flag_page page flags (test_flags page flags set (sym e))

-- ---- how many rows have a word: no more than 32
pub page_rows_many : (page : List ℕ) (r i n : ℕ) → length (rows_from page r i n) ≡ n
unfolding rows_from
page_rows_many page r i zero = refl
page_rows_many page r i (suc n) = ap suc (page_rows_many page (r + 1) (i + literals_of page r) n)

pub row_words_many : (page : List ℕ) → length (row_words page) ≡ row_total page
unfolding row_words
row_words_many page =
    length-map (rows_from page 0 (literals_at page) (row_total page)) row_word ∙ page_rows_many page 0 (literals_at page) (row_total page)

-- ---- on an accepted page
module _ (page : List ℕ) (h : page_no page ≡ 0) (rows : List ℕ) (er : rows ≡ row_words page) where
  pub lent_count : length rows ≡ row_count page
  lent_count = ap length er ∙ row_words_many page ∙ row_most page h

  pub lent_rows : rules_in rows ≡ rows_of page
  lent_rows = ap rules_in er ∙ rows_back page h

  pub lent_rules : (flags : ℕ) → rules_with rows flags ≡ rules (program page flags)
  unfolding rules_with rules program
  lent_rules flags = ap (λ (l : List Rule). l ++ raised flags) lent_rows

  pub lent_preferred : (flags : ℕ) → preferred (program_in rows [] flags) ≡ preferred (program page flags)
  lent_preferred flags = rw er (same_preferred page h flags)

  module _ (pairs : List ℕ) (ep : pairs ≡ pair_words page) (flags : ℕ) where
    pub lent_answer : answer (program_in rows pairs flags) ≡ answer (program page flags)
    lent_answer = rw (er, ep) (same_answer page h flags)

    pub lent_here_there : here_there (program_in rows pairs flags) ≡ here_there (program page flags)
    lent_here_there = rw (er, ep) (same_here_there page h flags)

    pub lent_split : split_count (program_in rows pairs flags) ≡ split_count (program page flags)
    lent_split = rw (er, ep) (same_split page h flags)
