-- What the searches for best sets ask of their arguments, and what they leave of the marks. A beaten set may lose its mark at once: whatever it
-- beats is beaten by a best set too.
use Rattle.std.specs.Prelude.{◌≡◌, Bool, ◌&&◌, List, ℕ, ◌+◌, ◌*◌, ◌≤◌, ◌<◌, T, length, get_or}
use Rattle.atoms.specs.Atoms.{has}
use Rattle.lpod.specs.Degree.{degree}
use Rattle.words.specs.Coded.{rule_in}
use Rattle.lanes.specs.Marks.{marked, Within}
use Rattle.lanes.specs.Rank.{over}
use Rattle.lanes.specs.declared.ranking.Ranking.{Ranking}
use Rattle.lanes.specs.Search.{sought_best}

-- ---- a word for each block: the rows that have degree 1 in a marked set of the block are among its bits
abbrev pub Index : List ℕ → List ℕ → List ℕ → Type 0
Index rows index marks =
    (b n j : ℕ) → b < length marks → n < length rows → j < 64 → T (has (get_or marks b 0) j) → degree (64 * b + j) (rule_in (get_or rows n 0)) ≡ 1
    → T (has (get_or index b 0) n)

-- ---- marks that are searched, and the relation that ranks them
pub record Searched (ranking : Ranking) (marks : List ℕ) : Type 0 where
  pub few : length marks ≤ 1024
  pub fit : length marks ≤ length ranking.index.now
  pub start : ranking.span.low < length marks
  pub between : Within marks ranking.span.low ranking.span.high
  pub firsts : Index ranking.rules.rows.now ranking.index.now marks

abbrev pub beats : Ranking → ℕ → ℕ → Bool
beats ranking = over ranking.rules.rows.now

module _ (above : ℕ → ℕ → Bool) where
  -- s is marked, and preferred to M
  abbrev pub rival : List ℕ → ℕ → ℕ → Bool
  rival marks M s = marked marks s && above s M

  -- ---- no set has gained a mark, and no best set has lost it
  pub record Left (before after : List ℕ) : Type 0 where
    pub same : length after ≡ length before
    pub less : (s : ℕ) → T (marked after s) → T (marked before s)
    pub best : (s : ℕ) → T (sought_best above before s) → T (marked after s)

  -- no set has gained a mark, and only sets to which M is preferred have lost it. How many of these go is a matter of speed
  pub record Cleared (M : ℕ) (before after : List ℕ) : Type 0 where
    pub same : length after ≡ length before
    pub less : (s : ℕ) → T (marked after s) → T (marked before s)
    pub kept : (s : ℕ) → T (marked before s) → (T (above M s) → ⊥) → T (marked after s)
