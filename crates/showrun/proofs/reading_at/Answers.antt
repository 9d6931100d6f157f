-- `showrun::reading_at` joins four bytes, which are two words, and takes the reading with these bits. Assumes nothing.
use Rattle.std.proofs.Common.{◌≡◌, ℕ, ◌+◌, ◌*◌, List, [], ◌∷◌, get_or, arith, ap, ◌∙◌}
use Rattle.std.specs.Int.{w32, from_le_bytes}
use Rattle.page.specs.Fields.{word_at}
use Rattle.display.specs.Readings.{of_word}
use Rattle.showrun.specs.Says.{reading_at}
use Rattle.showrun.proofs.reading_at.Goals as goal

joined : (s : List ℕ) (i : ℕ) → from_le_bytes w32 (get_or s i 0 ∷ get_or s (i + 1) 0 ∷ get_or s (i + 2) 0 ∷ get_or s (i + 3) 0 ∷ []) ≡ word_at s i + 65536 * word_at s (i + 2)
unfolding word_at
joined s i = let next : i + 2 + 1 ≡ i + 3 = omega arith in rw next (omega arith)

pub returns : goal.returns
unfolding reading_at
returns c = c.of_bits.ensures ∙ ap of_word (c.from_le_bytes.ensures ∙ joined c.args.input.now c.args.at)
