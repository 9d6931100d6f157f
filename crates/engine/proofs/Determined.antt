-- For every public call of atoms, lpod, page, words, routes, lanes and engine: any two answers that its statement allows are equal, and so is the
-- lent memory afterwards. Each statement is one equation or two, so this is short; it would fail for a statement that left something open.
-- There is no exception. Assumes nothing.
use Rattle.std.specs.Prelude.{Result, Ok, Err, Some, None}
use Rattle.std.specs.Prelude as rust
use mathlib.Core.Path.{◌≡◌, refl, sym, ap, ◌∙◌}
use mathlib.Core.Bool.{Bool, false}
use mathlib.Core.List.{List}
use mathlib.Core.Option.{none-ne-some, some-injective}
use Prim.Native.Nat.{ℕ, ◌≤◌}
use native.Mathlib.Omega.{arith}
use lib.IntN.{pos}
use lib.ListN.{length, get_or, take, drop, take-append-drop}
use Rattle.atoms.specs.Atoms as sets
use Rattle.lpod.specs.Rule.{most_atoms}
use Rattle.lpod.specs.Satisfied.{all_in, some_in, body_holds, satisfies, satisfies_all, no_pair}
use Rattle.lpod.specs.Reduct.{reduct}
use Rattle.lpod.specs.Least.{least}
use Rattle.lpod.specs.Answer.{answer}
use Rattle.lpod.specs.HereThere.{here_there}
use Rattle.lpod.specs.Degree.{place, degree}
use Rattle.page.specs.Fields as fields
use Rattle.page.specs.Refusals as refusals
use Rattle.page.specs.Answers.{number, no, Answered}
use Rattle.page.specs.declared.refusal.Refusal.{Refusal}
use Rattle.page.proofs.Refusing.{above_zero, one_refusal, one_answered}
use Rattle.page.specs.Letter.{letter_of}
use Rattle.page.specs.Program.{literal_place}
use Rattle.page.specs.Rows as rows
use Rattle.page.specs.Reader.{said, row_said, number_after}
use Rattle.page.specs.declared.rows.Row.{Row}
use Rattle.page.proofs.ReaderSteps as reader
use Rattle.routes.specs.Tests.{ReductSays, HereThereSays}
use Rattle.routes.specs.Split.{Split, with_yes, SplitSays}
use Rattle.routes.specs.Rounds.{RoundsSays}
use Rattle.words.specs.Coded as coded
use Rattle.lpod.specs.Best as bests
use Rattle.lanes.specs.Sets.{FoundSays, program_of, found}
use Rattle.engine.specs.Calls.{SetsSay, ListSays, BestSays, PickSays}
use Rattle.engine.specs.Rank.{PreferredSays}
use Rattle.engine.specs.Degrees.{DegreesSays}
use Rattle.engine.specs.Compare.{sided, CompareSays}
use Rattle.engine.specs.declared.compare.Side.{Side}
use Rattle.engine.proofs.Comparing.{one_sided}

-- two values that are both the defined one are one
pub one_answer : {A : Type 0} {x y z : A} → x ≡ z → y ≡ z → x ≡ y
one_answer p q = p ∙ sym q

-- ---- calls that answer a value

-- atoms
pub holds : (s a : ℕ) (x y : Bool) → x ≡ sets.has s a → y ≡ sets.has s a → x ≡ y
holds s a x y = one_answer

pub with_atom_lem : (s a : ℕ) (x y : ℕ) → x ≡ sets.with_atom s a → y ≡ sets.with_atom s a → x ≡ y
with_atom_lem s a x y = one_answer

pub part_of : (a b : ℕ) (x y : Bool) → x ≡ sets.inside a b → y ≡ sets.inside a b → x ≡ y
part_of a b x y = one_answer

pub union : (a b : ℕ) (x y : ℕ) → x ≡ sets.union a b → y ≡ sets.union a b → x ≡ y
union a b x y = one_answer

pub common : (a b : ℕ) (x y : ℕ) → x ≡ sets.common a b → y ≡ sets.common a b → x ≡ y
common a b x y = one_answer

pub how_many_lem : (s : ℕ) (x y : ℕ) → x ≡ sets.how_many s → y ≡ sets.how_many s → x ≡ y
how_many_lem s x y = one_answer

pub lowest : (s : ℕ) (x y : ℕ) → x ≡ sets.lowest s → y ≡ sets.lowest s → x ≡ y
lowest s x y = one_answer

-- lpod
pub most_atoms_lem : (x y : ℕ) → x ≡ most_atoms → y ≡ most_atoms → x ≡ y
most_atoms_lem x y = one_answer

-- page::fields
pub byte_at_lem : (page : List ℕ) (i : ℕ) (x y : ℕ) → x ≡ fields.byte_at page i → y ≡ fields.byte_at page i → x ≡ y
byte_at_lem page i x y = one_answer

pub word_at_lem : (page : List ℕ) (i : ℕ) (x y : ℕ) → x ≡ fields.word_at page i → y ≡ fields.word_at page i → x ≡ y
word_at_lem page i x y = one_answer

pub form_of_lem : (page : List ℕ) (x y : ℕ) → x ≡ fields.form_of page → y ≡ fields.form_of page → x ≡ y
form_of_lem page x y = one_answer

pub atom_count_lem : (page : List ℕ) (x y : ℕ) → x ≡ fields.atom_count page → y ≡ fields.atom_count page → x ≡ y
atom_count_lem page x y = one_answer

pub row_count : (page : List ℕ) (x y : ℕ) → x ≡ fields.row_count page → y ≡ fields.row_count page → x ≡ y
row_count page x y = one_answer

pub literal_count_lem : (page : List ℕ) (x y : ℕ) → x ≡ fields.literal_count page → y ≡ fields.literal_count page → x ≡ y
literal_count_lem page x y = one_answer

pub pair_count_lem : (page : List ℕ) (x y : ℕ) → x ≡ fields.pair_count page → y ≡ fields.pair_count page → x ≡ y
pair_count_lem page x y = one_answer

pub rows_at_lem : (page : List ℕ) (x y : ℕ) → x ≡ fields.rows_at page → y ≡ fields.rows_at page → x ≡ y
rows_at_lem page x y = one_answer

pub literals_at_lem : (page : List ℕ) (x y : ℕ) → x ≡ fields.literals_at page → y ≡ fields.literals_at page → x ≡ y
literals_at_lem page x y = one_answer

pub pairs_at_lem : (page : List ℕ) (x y : ℕ) → x ≡ fields.pairs_at page → y ≡ fields.pairs_at page → x ≡ y
pairs_at_lem page x y = one_answer

pub end_of_lem : (page : List ℕ) (x y : ℕ) → x ≡ fields.end_of page → y ≡ fields.end_of page → x ≡ y
end_of_lem page x y = one_answer

pub head_count_lem : (page : List ℕ) (r : ℕ) (x y : ℕ) → x ≡ fields.head_count page r → y ≡ fields.head_count page r → x ≡ y
head_count_lem page r x y = one_answer

pub pos_count_lem : (page : List ℕ) (r : ℕ) (x y : ℕ) → x ≡ fields.pos_count page r → y ≡ fields.pos_count page r → x ≡ y
pos_count_lem page r x y = one_answer

pub neg_count_lem : (page : List ℕ) (r : ℕ) (x y : ℕ) → x ≡ fields.neg_count page r → y ≡ fields.neg_count page r → x ≡ y
neg_count_lem page r x y = one_answer

pub spare_byte_lem : (page : List ℕ) (r : ℕ) (x y : ℕ) → x ≡ fields.spare_byte page r → y ≡ fields.spare_byte page r → x ≡ y
spare_byte_lem page r x y = one_answer

pub literals_of_lem : (page : List ℕ) (r : ℕ) (x y : ℕ) → x ≡ fields.literals_of page r → y ≡ fields.literals_of page r → x ≡ y
literals_of_lem page r x y = one_answer

-- page::ranges
pub counts_out_lem : (atoms rows literals pairs : ℕ) (x y : Bool) → x ≡ refusals.counts_out atoms rows literals pairs → y ≡ refusals.counts_out atoms rows literals pairs → x ≡ y
counts_out_lem atoms rows literals pairs x y = one_answer

-- page::refusal
pub refusal_number : (e : Refusal) (x y : ℕ) → x ≡ number e → y ≡ number e → x ≡ y
refusal_number e x y = one_answer

-- page::accept: an answer with no value is settled by its number
one_check : (n : ℕ) (x y : Result (Unit {0}) Refusal) → no x ≡ n → no y ≡ n → x ≡ y
one_check n (Ok a) (Ok b) p q = refl
one_check n (Ok a) (Err f) p q = absurd (omega (arith, above_zero f, p, q))
one_check n (Err e) (Ok b) p q = absurd (omega (arith, above_zero e, p, q))
one_check n (Err e) (Err f) p q = ap Err (one_refusal e f (one_answer p q))

pub check_page : (page : List ℕ) (x y : Result (Unit {0}) Refusal) → no x ≡ refusals.page_no page → no y ≡ refusals.page_no page → x ≡ y
check_page page = one_check (refusals.page_no page)

pub check_set : (page : List ℕ) (set : ℕ) (x y : Result (Unit {0}) Refusal) → no x ≡ refusals.set_no page set → no y ≡ refusals.set_no page set → x ≡ y
check_set page set = one_check (refusals.set_no page set)

pub check_flags : (page : List ℕ) (flags : ℕ) (x y : Result (Unit {0}) Refusal) → no x ≡ refusals.flag_no page flags → no y ≡ refusals.flag_no page flags → x ≡ y
check_flags page flags = one_check (refusals.flag_no page flags)

pub check_test : (page : List ℕ) (flags set : ℕ) (x y : Result (Unit {0}) Refusal) → no x ≡ refusals.test_no page flags set → no y ≡ refusals.test_no page flags set → x ≡ y
check_test page flags set = one_check (refusals.test_no page flags set)

-- page::letter
pub letter : (number : ℕ) (x y : ℕ) → x ≡ letter_of number → y ≡ letter_of number → x ≡ y
letter number x y = one_answer

-- page::rows
pub row_from : (page : List ℕ) (n place : ℕ) (x y : Row) → x ≡ rows.row_from page n place → y ≡ rows.row_from page n place → x ≡ y
row_from page n place x y = one_answer

pub first_place : (page : List ℕ) (x y : ℕ) → x ≡ fields.literals_at page → y ≡ fields.literals_at page → x ≡ y
first_place page x y = one_answer

pub place_after : (row : Row) (x y : ℕ) → x ≡ rows.place_after row → y ≡ rows.place_after row → x ≡ y
place_after row x y = one_answer

pub place_of : (page : List ℕ) (n : ℕ) (x y : ℕ) → x ≡ literal_place page n → y ≡ literal_place page n → x ≡ y
place_of page n x y = one_answer

-- words::read
pub row_total_lem : (page : List ℕ) (x y : ℕ) → (x ≡ coded.row_total page) × (x ≤ 32) → (y ≡ coded.row_total page) × (y ≤ 32) → x ≡ y
row_total_lem page x y p q = one_answer p.0 q.0

pub pair_total_lem : (page : List ℕ) (x y : ℕ) → (x ≡ coded.pair_total page) × (x ≤ 8) → (y ≡ coded.pair_total page) × (y ≤ 8) → x ≡ y
pair_total_lem page x y p q = one_answer p.0 q.0

-- these words first, and those after them
parted : (n t : ℕ) (l m x y : List ℕ) → (length x ≡ n) × (take t x ≡ l) × (drop t x ≡ m) → (length y ≡ n) × (take t y ≡ l) × (drop t y ≡ m) → x ≡ y
parted n t l m x y p q = sym (take-append-drop t x) ∙ rw (p.1, p.2, ← q.1, ← q.2) (take-append-drop t y)

pub fill_rows : (page before x y : List ℕ)
    → (length x ≡ 32) × (take (coded.row_total page) x ≡ coded.row_words page) × (drop (coded.row_total page) x ≡ drop (coded.row_total page) before)
    → (length y ≡ 32) × (take (coded.row_total page) y ≡ coded.row_words page) × (drop (coded.row_total page) y ≡ drop (coded.row_total page) before) → x ≡ y
fill_rows page before x y = parted 32 (coded.row_total page) (coded.row_words page) (drop (coded.row_total page) before) x y

-- a vector by its entries: what `row_words` gives, and what `put_rows` leaves
pub row_words : (page x y : List ℕ) → x ≡ coded.row_words page → y ≡ coded.row_words page → x ≡ y
row_words page x y = one_answer

pub pair_words_lem : (page x y : List ℕ) → x ≡ coded.pair_words page → y ≡ coded.pair_words page → x ≡ y
pair_words_lem page x y = one_answer

-- words::row
pub pos_in : (row s : ℕ) (x y : Bool) → x ≡ all_in (coded.rule_in row).pos s → y ≡ all_in (coded.rule_in row).pos s → x ≡ y
pos_in row s x y = one_answer

pub neg_in : (row s : ℕ) (x y : Bool) → x ≡ some_in (coded.rule_in row).neg s → y ≡ some_in (coded.rule_in row).neg s → x ≡ y
neg_in row s x y = one_answer

pub word_head_count : (row : ℕ) (x y : ℕ) → x ≡ length (coded.rule_in row).head → y ≡ length (coded.rule_in row).head → x ≡ y
word_head_count row x y = one_answer

pub head_in : (row s : ℕ) (x y : Bool) → x ≡ some_in (coded.rule_in row).head s → y ≡ some_in (coded.rule_in row).head s → x ≡ y
head_in row s x y = one_answer

pub head_place : (row s : ℕ) (x y : ℕ) → x ≡ place 1 (coded.rule_in row).head s → y ≡ place 1 (coded.rule_in row).head s → x ≡ y
head_place row s x y = one_answer

pub head_atom : (row k : ℕ) (x y : ℕ) → x ≡ get_or (coded.rule_in row).head k 0 → y ≡ get_or (coded.rule_in row).head k 0 → x ≡ y
head_atom row k x y = one_answer

pub body_holds_lem : (row s : ℕ) (x y : Bool) → x ≡ body_holds (coded.rule_in row) s → y ≡ body_holds (coded.rule_in row) s → x ≡ y
body_holds_lem row s x y = one_answer

pub satisfied : (row s : ℕ) (x y : Bool) → x ≡ satisfies s (coded.rule_in row) → y ≡ satisfies s (coded.rule_in row) → x ≡ y
satisfied row s x y = one_answer

pub row_degree : (row s : ℕ) (x y : ℕ) → x ≡ degree s (coded.rule_in row) → y ≡ degree s (coded.rule_in row) → x ≡ y
row_degree row s x y = one_answer

-- words::rows
pub no_pair_lem : (pairs : List ℕ) (s : ℕ) (x y : Bool) → x ≡ no_pair (coded.pairs_in pairs) s → y ≡ no_pair (coded.pairs_in pairs) s → x ≡ y
no_pair_lem pairs s x y = one_answer

pub rows_satisfied : (rows : List ℕ) (s : ℕ) (x y : Bool) → x ≡ satisfies_all s (coded.rules_in rows) → y ≡ satisfies_all s (coded.rules_in rows) → x ≡ y
rows_satisfied rows s x y = one_answer

-- routes::reduct
pub least_of : (words : List ℕ) (flags set : ℕ) (x y : ℕ) → x ≡ least (reduct (coded.rules_with words flags) set) → y ≡ least (reduct (coded.rules_with words flags) set) → x ≡ y
least_of words flags set x y = one_answer

pub is_answer : (words pairs : List ℕ) (flags set : ℕ) (x y : Bool) → x ≡ answer (coded.program_in words pairs flags) set → y ≡ answer (coded.program_in words pairs flags) set → x ≡ y
is_answer words pairs flags set x y = one_answer

-- routes::here_there
pub is_here_there : (words pairs : List ℕ) (flags set : ℕ) (x y : Bool) → x ≡ here_there (coded.program_in words pairs flags) set → y ≡ here_there (coded.program_in words pairs flags) set → x ≡ y
is_here_there words pairs flags set x y = one_answer

-- lanes::sets: the lists and the pick of rows and pairs in words
pub sets_of_words : (l out : List ℕ) (x y : ℕ) (after later : List ℕ) → FoundSays l out x after → FoundSays l out y later → (x ≡ y) × (after ≡ later)
sets_of_words l out x y after later p q = (one_answer p.0 q.0, one_answer p.1 q.1)

pub pick_of_words : (words pairs : List ℕ) (flags : ℕ) (x y : rust.Option ℕ) → found x ≡ bests.pick (program_of words pairs flags)
    → found y ≡ bests.pick (program_of words pairs flags) → x ≡ y
pick_of_words words pairs flags x y p q = go x y (one_answer p q)
  where
    go : (x y : rust.Option ℕ) → found x ≡ found y → x ≡ y
    go None None e = refl
    go None (Some t) e = absurd (none-ne-some t e)
    go (Some s) None e = absurd (none-ne-some s (sym e))
    go (Some s) (Some t) e = ap Some (some-injective s t e)

-- engine::rank
pub preferred_set : (words : List ℕ) (flags m n : ℕ) (x y : Bool) → PreferredSays words flags m n x → PreferredSays words flags m n y → x ≡ y
preferred_set words flags m n x y = one_answer

-- ---- the row reader
-- a row by its number
pub row_at : (page : List ℕ) (n : ℕ) (x y : rust.Option Row) → said x ≡ row_said page n → said y ≡ row_said page n → x ≡ y
row_at page n x y p q = reader.one_answer x y (one_answer p q)

-- what a reader says where it stands is the same statement; an opening and a move give an answer or a number, and the slice that was lent, each by an
-- equation, whatever a slice is
pub opened : {S : Type 0} (page : List ℕ) (lent : S) (m n : Result (Unit {0}) Refusal) (s t : S) (i j : ℕ)
    → (no m ≡ refusals.page_no page) × (s ≡ lent) × (i ≡ 0) → (no n ≡ refusals.page_no page) × (t ≡ lent) × (j ≡ 0) → (m ≡ n) × (s ≡ t) × (i ≡ j)
opened page lent m n s t i j p q = (one_check (refusals.page_no page) m n p.0 q.0, one_answer p.1 q.1, one_answer p.2 q.2)

pub moved : {S : Type 0} (page : List ℕ) (lent : S) (at : ℕ) (s t : S) (i j : ℕ) → (s ≡ lent) × (i ≡ number_after page at) → (t ≡ lent) × (j ≡ number_after page at)
    → (s ≡ t) × (i ≡ j)
moved page lent at s t i j p q = (one_answer p.0 q.0, one_answer p.1 q.1)

-- ---- the tests of one set
pub reduct_test_lem : (page : List ℕ) (flags set : ℕ) (x y : Result Bool Refusal) → ReductSays page flags set x → ReductSays page flags set y → x ≡ y
reduct_test_lem page flags set x y p q = one_answered false x y (one_answer p q)

pub here_there_test_lem : (page : List ℕ) (flags set : ℕ) (x y : Result Bool Refusal) → HereThereSays page flags set x → HereThereSays page flags set y → x ≡ y
here_there_test_lem page flags set x y p q = one_answered false x y (one_answer p q)

pub split_test_lem : (page : List ℕ) (flags set : ℕ) (x y : Result ℕ Refusal) → SplitSays page flags set x → SplitSays page flags set y → x ≡ y
split_test_lem page flags set x y p q = one_answered 0 x y (one_split (one_answer p q))
  where
    one_split : {a b : Answered ℕ} → with_yes a ≡ with_yes b → a ≡ b
    one_split e = ap (λ (s : Split). record { no = s.no; value = s.count }) e

pub rounds : (page : List ℕ) (flags set : ℕ) (x y : Result ℕ Refusal) → RoundsSays page flags set x → RoundsSays page flags set y → x ≡ y
rounds page flags set x y p q = one_answered 0 x y (one_answer p q)

-- ---- the calls over all answer sets: the answer, and the lent slice afterwards
pub sets_listed : (l page : List ℕ) (flags : ℕ) (out : List ℕ) (x y : Result ℕ Refusal) (after later : List ℕ) → SetsSay l page flags out x after
    → SetsSay l page flags out y later → (x ≡ y) × (after ≡ later)
sets_listed l page flags out x y after later p q = (one_answered 0 x y (one_answer p.0 q.0), one_answer p.1 q.1)

pub list : (page : List ℕ) (flags : ℕ) (out : List ℕ) (x y : Result ℕ Refusal) (after later : List ℕ) → ListSays page flags out x after
    → ListSays page flags out y later → (x ≡ y) × (after ≡ later)
list page flags out x y after later p q = (one_answered 0 x y (one_answer p.0 q.0), one_answer p.1 q.1)

pub best : (page : List ℕ) (flags : ℕ) (out : List ℕ) (x y : Result ℕ Refusal) (after later : List ℕ) → BestSays page flags out x after
    → BestSays page flags out y later → (x ≡ y) × (after ≡ later)
best page flags out x y after later p q = (one_answered 0 x y (one_answer p.0 q.0), one_answer p.1 q.1)

pub degrees : (page : List ℕ) (flags set : ℕ) (out after later : List ℕ) (x y : Result ℕ Refusal) → DegreesSays page flags set out after x
    → DegreesSays page flags set out later y → (x ≡ y) × (after ≡ later)
degrees page flags set out after later x y p q = (one_answered 0 x y (one_answer p.0 q.0), one_answer p.1 q.1)

pub compare : (page : List ℕ) (flags first second : ℕ) (x y : Result Side Refusal) → CompareSays page flags first second x → CompareSays page flags first second y → x ≡ y
compare page flags first second x y p q = one_sided x y (one_answered (pos 0) (sided x) (sided y) (one_answer p q))

pub pick : (page : List ℕ) (flags : ℕ) (x y : Result ℕ Refusal) → PickSays page flags x → PickSays page flags y → x ≡ y
pick page flags x y p q = one_answered 0 x y (one_answer p q)
