-- An accepted page means what its content means: the same rules and pairs, in the same order. By induction on the rows. Assumes nothing.
use mathlib.Core.Path.{◌≡◌, refl, sym, ap, ◌∙◌}
use mathlib.Core.List.{List, ◌∷◌}
use Prim.Native.Nat.{ℕ, zero, suc, ◌+◌, ◌*◌, ◌-◌, ◌≤◌}
use native.Mathlib.Nat.{zero-add, add-zero, sub-zero}
use native.Mathlib.Omega.{arith}
use lib.ListN.{take, drop}
use Rattle.lpod.specs.Rule.{Rule}
use Rattle.page.specs.Fields.{byte_at, row_count, literal_count, pair_count, literals_at, pairs_at, head_count, pos_count, neg_count, literals_of}
use Rattle.page.specs.Program.{literals, rule_at, rows_from, rows_of, pairs_from, pairs_of, program, literal_place}
use Rattle.page.specs.Refusals.{page_no}
use Rattle.page.proofs.Places.{place_up}
use Rattle.page.proofs.RowSteps.{at_first}
use Rattle.page.proofs.Scan.{place_next}
use Rattle.page.proofs.Accepted.{places_end}
use Rattle.writer.specs.Content.{counts_from, content_of}
use Rattle.writer.specs.Meaning.{rules_given, pairs_given, program_given}

-- the first of a run, and the rest of it
run_take : (page : List ℕ) (i h m : ℕ) → h ≤ m → take h (literals page i m) ≡ literals page i h
unfolding literals
run_take page i zero m l = refl
run_take page i (suc h) zero l = absurd (omega arith)
run_take page i (suc h) (suc m) l = ap (λ (r : List ℕ). byte_at page i ∷ r) (run_take page (i + 1) h m (omega arith))

run_drop : (page : List ℕ) (i h m : ℕ) → h ≤ m → drop h (literals page i m) ≡ literals page (i + h) (m - h)
unfolding literals
run_drop page i zero m l = rw (add-zero, sub-zero)
run_drop page i (suc h) zero l = absurd (omega arith)
run_drop page i (suc h) (suc m) l =
    let at : i + 1 + h ≡ i + suc h = omega arith in
    let left : m - h ≡ suc m - suc h = omega arith in
    run_drop page (i + 1) h m (omega arith) ∙ rw (at, left)

-- row r, whose literals are the first of the m from i on
rule_given : (page : List ℕ) (r i m : ℕ) → literals_of page r ≤ m
    → rule_at page r i
    ≡ record {
      head = take (head_count page r) (literals page i m);
      pos = take (pos_count page r) (drop (head_count page r) (literals page i m));
      neg = take (neg_count page r) (drop (head_count page r + pos_count page r) (literals page i m));
    }
unfolding rule_at literals_of
rule_given page r i m l =
    let h = head_count page r in
    let p = pos_count page r in
    let at : i + (h + p) ≡ i + h + p = omega arith in
    rw (
      run_take page i h m (omega arith),
      run_drop page i h m (omega arith),
      run_take page (i + h) p (m - h) (omega arith),
      run_drop page i (h + p) m (omega arith),
      run_take page (i + (h + p)) (neg_count page r) (m - (h + p)) (omega arith),
      at,
    )

-- n rows from row r on, whose literals are within the m from i on
rows_given : (page : List ℕ) (n r i m : ℕ) → i ≡ literal_place page r → literal_place page (r + n) ≤ i + m
    → rows_from page r i n ≡ rules_given (counts_from page r n) (literals page i m)
unfolding rows_from counts_from rules_given literals_of
rows_given page zero r i m e l = refl
rows_given page (suc n) r i m e l =
    let k = literals_of page r in
    let up : literal_place page (r + 1) ≤ literal_place page (r + suc n) = place_up page (r + 1) (r + suc n) (omega arith) in
    let fit : k ≤ m = omega (arith, up, l, place_next page r, e) in
    let last : r + 1 + n ≡ r + suc n = omega arith in
    let next = rows_given page n (r + 1) (i + k) (m - k) (rw (e, place_next page r)) (rw last (omega (arith, l, fit))) in
    ap (λ (P : List Rule). rule_at page r i ∷ P) (next ∙ ap (rules_given (counts_from page (r + 1) n)) (sym (run_drop page i k m fit)))
    ∙ ap (λ (x : Rule). x ∷ rules_given (counts_from page (r + 1) n) (drop k (literals page i m))) (rule_given page r i m fit)

pairs_given_lem : (page : List ℕ) (i n : ℕ) → pairs_from page i n ≡ pairs_given (literals page i (2 * n))
unfolding pairs_from pairs_given literals
pairs_given_lem page i zero = refl
pairs_given_lem page i (suc n) =
    let e : 2 * suc n ≡ suc (suc (2 * n)) = omega arith in
    let at : i + 1 + 1 ≡ i + 2 = omega arith in
    rw (e, at, pairs_given_lem page (i + 2) n)

inside : (page : List ℕ) → page_no page ≡ 0 → literal_place page (0 + row_count page) ≤ literals_at page + literal_count page
unfolding pairs_at
inside page h = rw zero-add (omega (arith, places_end page h))

pub means_own : (page : List ℕ) → page_no page ≡ 0 → (flags : ℕ) → program page flags ≡ program_given (content_of page) flags
unfolding program program_given content_of rows_of pairs_of
means_own page h flags =
    rw (rows_given page (row_count page) 0 (literals_at page) (literal_count page) (at_first page (literals_at page) refl) (inside page h), pairs_given_lem page (pairs_at page) (pair_count page))
