-- The three demands, as theorems about every page, flag word and set. Each starts from the statement of a call (`ListSays`, `PickSays` ..),
-- which is the call's own contract, and says what a user may rely on. That a call takes every input, reads nothing outside what it was
-- lent, wraps no number and ends needs no theorem here: no public function asks anything of its caller, and the check shows the rest of
-- each function. Assumes nothing.
use Rattle.std.specs.Prelude.{Result, Ok}
use mathlib.Core.Path.{◌≡◌, refl, sym, ap, ◌∙◌}
use mathlib.Core.Bool.{Bool, true, false, cond}
use mathlib.Core.Logic.{◌↔◌}
use mathlib.Core.List.{List, [], ◌∷◌, Memᴰ}
use mathlib.Core.Option.{Option, some, none}
use Prim.Native.Nat.{ℕ, ◌^◌, ◌≤◌, ◌<◌}
use native.Mathlib.Omega.{arith}
use lib.Dec.{T, ltb}
use lib.IntN.{pos}
use lib.ListN.{length, take, drop}
use Rattle.atoms.proofs.Truth.{and_l, and_r, both, true_yes}
use Rattle.lpod.specs.Lists.{every, Rising}
use Rattle.lpod.specs.Rule.{Program}
use Rattle.lpod.specs.Answer.{answer, answer_sets}
use Rattle.lpod.specs.Degree.{degrees}
use Rattle.lpod.specs.Preferred.{preferred, compare}
use Rattle.lpod.specs.Best.{none_over, best, best_sets, pick}
use Rattle.lpod.proofs.ReductIsHereThere.{reduct_is_here_there}
use Rattle.lpod.proofs.InclusionOrder.{Preferred, preferred_says}
use Rattle.lpod.proofs.BestAbove.{none_says, says_none}
use Rattle.lpod.proofs.ListsExact.{answers_exact, answers_rise, bests_exact, bests_rise}
use Rattle.lpod.proofs.PickIsBest.{best_above_answer, no_pick, pick_lowest}
use Rattle.page.specs.Fields.{row_count}
use Rattle.page.specs.Program.{program}
use Rattle.page.specs.Refusals.{refuse, first_that, numbered, page_refusals, flag_refusals, set_refusals, test_refusals, page_no, flag_no, test_no}
use Rattle.page.proofs.Refusals.{page_numbered, flag_numbered, test_numbered, first_append, given_append}
use Rattle.page.specs.Answers.{no, Answered, answered, by_number}
use Rattle.page.specs.declared.refusal.Refusal.{Refusal}
use Rattle.page.proofs.Refusing.{one_answered}
use Rattle.routes.specs.Tests.{reduct_test, here_there_test, ReductSays, HereThereSays}
use Rattle.routes.specs.Split.{split_refusals, split_no, split_test}
use Rattle.routes.specs.Rounds.{rounds_to, RoundsSays}
use Rattle.routes.proofs.SplitCounts.{split_says, split_gives}
use Rattle.lanes.specs.Entries.{stored}
use Rattle.engine.specs.Calls.{list_refusals, list_no, SetsSay, ListSays, BestSays, is_empty, pick_refusals, pick_no, set_or, PickSays}
use Rattle.engine.specs.Degrees.{degrees_refusals, degrees_no, degrees_after, DegreesSays}
use Rattle.engine.specs.Compare.{compare_refusals, compare_no, side_number, sided, CompareSays}
use Rattle.engine.specs.declared.compare.Side.{Side}
use Rattle.engine.specs.declared.compare.Side.TheVariants.{First, Second}
use Rattle.engine.proofs.Given.{Given, given, numbered_append, entries_first, entries_later, where_refused, where_accepted, number_said, refused_blank, accepted_said}
use Rattle.engine.proofs.AnswerSets.{answer_below}
use Rattle.engine.proofs.Comparing.{compare_first, compare_second, one_side, sided_no}

-- ==== Demand 1: the first refusal in order, given only then; a refused call changes no lent memory

pub demand_1_page : (page : List ℕ) → Given (page_refusals page) (page_no page)
unfolding page_no
demand_1_page page = given (page_refusals page) (page_no page) (page_numbered page) refl

pub demand_1_sets : (sets page : List ℕ) (flags : ℕ) (out : List ℕ) (r : Result ℕ Refusal) (after : List ℕ) → SetsSay sets page flags out r after
    → Given (list_refusals page flags sets out) (no r) × ((no r ≡ 0 → ⊥) → ((answered 0 r).value ≡ 0) × (after ≡ out))
unfolding list_refusals list_no stored numbered every
demand_1_sets sets page flags out r after says =
    let n = list_no page flags sets out in
    let e : no r ≡ n = number_said 0 (length sets) n r says.0 in (
      given (list_refusals page flags sets out) (no r) (numbered_append (flag_refusals page flags) (refuse 11 (ltb (length out) (length sets)) ∷ []) (flag_numbered page flags) tt) e,
      (λ z. (refused_blank 0 r z, says.1 ∙ where_refused n _ out (λ y. z (e ∙ y)))),
    )

pub demand_1_pick : (page : List ℕ) (flags : ℕ) (r : Result ℕ Refusal) → PickSays page flags r
    → Given (pick_refusals page flags) (no r) × ((no r ≡ 0 → ⊥) → (answered 0 r).value ≡ 0)
unfolding pick_refusals pick_no numbered every
demand_1_pick page flags r says =
    let e : no r ≡ pick_no page flags = number_said 0 _ (pick_no page flags) r says in (
      given (pick_refusals page flags) (no r) (numbered_append (flag_refusals page flags) (refuse 10 (is_empty (answer_sets (program page flags))) ∷ []) (flag_numbered page flags) tt) e,
      refused_blank 0 r,
    )

pub demand_1_degrees : (page : List ℕ) (flags set : ℕ) (out after : List ℕ) (r : Result ℕ Refusal) → DegreesSays page flags set out after r
    → Given (degrees_refusals page flags set (length out)) (no r) × ((no r ≡ 0 → ⊥) → ((answered 0 r).value ≡ 0) × (after ≡ out))
unfolding degrees_refusals degrees_no degrees_after numbered every
demand_1_degrees page flags set out after r says =
    let n = degrees_no page flags set (length out) in
    let e : no r ≡ n = number_said 0 (row_count page) n r says.0 in (
      given (degrees_refusals page flags set (length out)) (no r) (numbered_append (test_refusals page flags set) (_ ∷ _ ∷ []) (test_numbered page flags set) tt) e,
      (λ z. (refused_blank 0 r z, says.1 ∙ where_refused n _ out (λ y. z (e ∙ y)))),
    )

pub demand_1_compare : (page : List ℕ) (flags first second : ℕ) (r : Result Side Refusal) → CompareSays page flags first second r
    → Given (compare_refusals page flags first second) (no r) × ((no r ≡ 0 → ⊥) → (answered (pos 0) (sided r)).value ≡ pos 0)
unfolding compare_refusals compare_no set_refusals numbered every
demand_1_compare page flags first second r says =
    let n = compare_no page flags first second in
    let e : no r ≡ n = sym (sided_no r) ∙ number_said (pos 0) _ n (sided r) says in (
      given (compare_refusals page flags first second) (no r) (numbered_append (test_refusals page flags first) (_ ∷ _ ∷ []) (test_numbered page flags first) tt) e,
      (λ z. refused_blank (pos 0) (sided r) (λ y. z (sym (sided_no r) ∙ y))),
    )

-- the three tests of one set: the number, and no where refused
pub demand_1_tests : (page : List ℕ) (flags set : ℕ) (b : Bool) (r : Result Bool Refusal) → answered false r ≡ by_number false (test_no page flags set) b
    → Given (test_refusals page flags set) (no r) × ((no r ≡ 0 → ⊥) → (answered false r).value ≡ false)
unfolding test_no
demand_1_tests page flags set b r says = (
  given (test_refusals page flags set) (no r) (test_numbered page flags set) (number_said false b (test_no page flags set) r says),
  refused_blank false r,
)

pub demand_1_split : (page : List ℕ) (flags set : ℕ) → Given (split_refusals page flags set) (split_test page flags set).no
unfolding split_no split_refusals numbered every
demand_1_split page flags set =
    given (split_refusals page flags set) _ (numbered_append (test_refusals page flags set) (_ ∷ []) (test_numbered page flags set) tt) (split_gives page flags set)

pub demand_1_rounds : (page : List ℕ) (flags set : ℕ) (r : Result ℕ Refusal) → RoundsSays page flags set r
    → Given (test_refusals page flags set) (no r) × ((no r ≡ 0 → ⊥) → (answered 0 r).value ≡ 0)
unfolding test_no rounds_to
demand_1_rounds page flags set r says = (
  given (test_refusals page flags set) (no r) (test_numbered page flags set) (number_said 0 _ (test_no page flags set) r says),
  refused_blank 0 r,
)

-- ==== Demand 2: the sets listed are exactly the answer sets, each once, rising; for every set the other two tests say the same

-- an accepted list: its number, its entries at the start of the lent slice, and every later entry as it was
stands : (sets page : List ℕ) (flags : ℕ) (out : List ℕ) (count : ℕ) (after : List ℕ) → SetsSay sets page flags out (Ok count) after
    → (count ≡ length sets) × (take (length sets) after ≡ sets) × (drop (length sets) after ≡ drop (length sets) out)
unfolding stored
stands sets page flags out count after says =
    let n = list_no page flags sets out in
    let e = accepted_said 0 (length sets) n count says.0 in
    let a = says.1 ∙ where_accepted n _ out e.0 in
    (e.1, entries_first sets out after a, entries_later sets out after a)

-- a list is accepted only where page and flag word are
list_flags : (sets page : List ℕ) (flags : ℕ) (out : List ℕ) (count : ℕ) (after : List ℕ) → SetsSay sets page flags out (Ok count) after → flag_no page flags ≡ 0
unfolding list_no list_refusals flag_no
list_flags sets page flags out count after says =
    (given_append (flag_refusals page flags) (_ ∷ []) (flag_numbered page flags) (accepted_said 0 (length sets) (list_no page flags sets out) count says.0).0).0

-- on an accepted page the answer sets below 2 ^ A are all there are
all_answers : (page : List ℕ) (flags : ℕ) → flags < 2 ^ 16 → flag_no page flags ≡ 0 → (s : ℕ) → Memᴰ s (answer_sets (program page flags)) ↔ T (answer (program page flags) s)
unfolding program
all_answers page flags w h s = (
  (λ m. ((answers_exact (program page flags) s).0 m).1),
  (λ t. (answers_exact (program page flags) s).1 (answer_below page flags w h s t, t)),
)

all_bests : (page : List ℕ) (flags : ℕ) → flags < 2 ^ 16 → flag_no page flags ≡ 0 → (s : ℕ) → Memᴰ s (best_sets (program page flags)) ↔ T (best (program page flags) s)
unfolding program best
all_bests page flags w h s = (
  (λ m. ((bests_exact (program page flags) s).0 m).1),
  (λ t. (bests_exact (program page flags) s).1 (answer_below page flags w h s (and_l (answer (program page flags) s) _ t), t)),
)

-- what an accepted call that lists the sets with a property leaves
pub record Exactly (has : ℕ → Bool) (out : List ℕ) (count : ℕ) (after : List ℕ) : Type 0 where
  pub sets : List ℕ
  pub many : count ≡ length sets
  pub entries : take count after ≡ sets
  pub later : drop count after ≡ drop count out
  pub exact : (s : ℕ) → Memᴰ s sets ↔ T (has s)
  pub rising : Rising sets

exactly : (has : ℕ → Bool) (sets page : List ℕ) (flags : ℕ) (out : List ℕ) (count : ℕ) (after : List ℕ) → SetsSay sets page flags out (Ok count) after
    → ((s : ℕ) → Memᴰ s sets ↔ T (has s)) → Rising sets → Exactly has out count after
exactly has sets page flags out count after says f g =
    let t = stands sets page flags out count after says in
    record { sets = sets; many = t.0; entries = rw t.0 t.1; later = rw t.0 t.2; exact = f; rising = g }

pub demand_2_list : (page : List ℕ) (flags : ℕ) → flags < 2 ^ 16 → (out : List ℕ) (count : ℕ) (after : List ℕ) → ListSays page flags out (Ok count) after
    → Exactly (answer (program page flags)) out count after
demand_2_list page flags w out count after says =
    exactly (answer (program page flags)) (answer_sets (program page flags)) page flags out count after says
    (all_answers page flags w (list_flags (answer_sets (program page flags)) page flags out count after says)) (answers_rise (program page flags))

pub demand_2_best : (page : List ℕ) (flags : ℕ) → flags < 2 ^ 16 → (out : List ℕ) (count : ℕ) (after : List ℕ) → BestSays page flags out (Ok count) after
    → Exactly (best (program page flags)) out count after
demand_2_best page flags w out count after says =
    exactly (best (program page flags)) (best_sets (program page flags)) page flags out count after says
    (all_bests page flags w (list_flags (best_sets (program page flags)) page flags out count after says)) (bests_rise (program page flags))

-- for every set: the reduct test says whether it is an answer set, the here-and-there test the same, and so does the split test where it counts
pub demand_2_tests : (page : List ℕ) (flags set : ℕ) (r h : Result Bool Refusal) → ReductSays page flags set r → HereThereSays page flags set h
    → (r ≡ h) × (test_no page flags set ≡ 0 → (answered false r).value ≡ answer (program page flags) set)
unfolding reduct_test here_there_test by_number
demand_2_tests page flags set r h sr sh = (
  one_answered false r h (sr ∙ ap (by_number false (test_no page flags set)) (reduct_is_here_there (program page flags) set) ∙ sym sh),
  (λ z. ap (λ (x : Answered Bool). x.value) sr ∙ rw z),
)

pub demand_2_split : (page : List ℕ) (flags set : ℕ) → split_no page flags set ≡ 0 → (split_test page flags set).yes ≡ answer (program page flags) set
demand_2_split page flags set z = split_says page flags set z

-- the degrees are the published ones, row by row
pub demand_2_degrees : (page : List ℕ) (flags set : ℕ) (out after : List ℕ) (count : ℕ) → DegreesSays page flags set out after (Ok count)
    → (take (length (degrees (program page flags) set)) after ≡ degrees (program page flags) set)
    × (drop (length (degrees (program page flags) set)) after ≡ drop (length (degrees (program page flags) set)) out)
unfolding degrees_after
demand_2_degrees page flags set out after count says =
    let n = degrees_no page flags set (length out) in
    let a = says.1 ∙ where_accepted n _ out (accepted_said 0 (row_count page) n count says.0).0 in
    (entries_first (degrees (program page flags) set) out after a, entries_later (degrees (program page flags) set) out after a)

-- the comparison is the published preference: the first exactly where the first is preferred, the second exactly where the second is
pub demand_2_compare : (page : List ℕ) (flags first second : ℕ) (s : Side) → CompareSays page flags first second (Ok s)
    → ((s ≡ First) ↔ Preferred (program page flags) first second) × ((s ≡ Second) ↔ Preferred (program page flags) second first)
demand_2_compare page flags first second s says =
    let p = program page flags in
    let q : side_number s ≡ compare p first second = (accepted_said (pos 0) (compare p first second) (compare_no page flags first second) (side_number s) says).1 in (
      (
        (λ e. (preferred_says p first second).0 ((compare_first p first second).0 (sym q ∙ ap side_number e))),
        (λ f. one_side s First (q ∙ (compare_first p first second).1 ((preferred_says p first second).1 f))),
      ),
      (
        (λ e. (preferred_says p second first).0 ((compare_second p first second).0 (sym q ∙ ap side_number e))),
        (λ f. one_side s Second (q ∙ (compare_second p first second).1 ((preferred_says p second first).1 f))),
      ),
    )

-- ==== Demand 3: the pick, and what is best

-- no set is preferred to s
abbrev pub NonePreferred : Program → ℕ → Type 0
NonePreferred p s = (t : ℕ) → T (answer p t) → Preferred p t s → ⊥

-- best is what it should be: an answer set to which none is preferred
pub best_is : (page : List ℕ) (flags : ℕ) → flags < 2 ^ 16 → flag_no page flags ≡ 0 → (s : ℕ)
    → T (best (program page flags) s) ↔ (T (answer (program page flags) s) × NonePreferred (program page flags) s)
unfolding best
best_is page flags w h s =
    let p = program page flags in (
      (λ b. (
        and_l (answer p s) (none_over (preferred p) (answer_sets p) s) b,
        λ t u f. none_says (preferred p) (answer_sets p) s (and_r (answer p s) _ b) t ((all_answers page flags w h t).1 u) ((preferred_says p t s).1 f),
      )),
      (λ x.
          both (answer p s) (none_over (preferred p) (answer_sets p) s) x.0
          (says_none (preferred p) (answer_sets p) s (λ t m u. x.1 t ((all_answers page flags w h t).0 m) ((preferred_says p t s).0 u)))),
    )

empty_none : (l : List ℕ) → is_empty l ≡ true → (s : ℕ) → Memᴰ s l → ⊥
unfolding is_empty
empty_none [] e s m = elim m [ ]
empty_none (x ∷ l) e s m = true_yes e

none_empty : (l : List ℕ) → ((s : ℕ) → Memᴰ s l → ⊥) → is_empty l ≡ true
unfolding is_empty
none_empty [] f = refl
none_empty (x ∷ l) f = absurd (f x (Memᴰ.head refl))

-- where page and flag word are accepted the pick's number tells only whether there is an answer set
pick_number : (page : List ℕ) (flags : ℕ) → flag_no page flags ≡ 0 → pick_no page flags ≡ cond (is_empty (answer_sets (program page flags))) 10 0
unfolding pick_no pick_refusals flag_no first_that
pick_number page flags h = first_append (flag_refusals page flags) (refuse 10 (is_empty (answer_sets (program page flags))) ∷ []) (flag_numbered page flags) ∙ rw h

pick_flags : (page : List ℕ) (flags : ℕ) → pick_no page flags ≡ 0 → flag_no page flags ≡ 0
unfolding pick_no pick_refusals flag_no
pick_flags page flags z = (given_append (flag_refusals page flags) (_ ∷ []) (flag_numbered page flags) z).0

-- "no answer set" exactly where there is none
none_number : (page : List ℕ) (flags : ℕ) → flags < 2 ^ 16 → flag_no page flags ≡ 0
    → (pick_no page flags ≡ 10) ↔ ((s : ℕ) → T (answer (program page flags) s) → ⊥)
none_number page flags w h =
    let sets = answer_sets (program page flags) in (
      (λ e s t. empty_none sets (ten (is_empty sets) (sym (pick_number page flags h) ∙ e)) s ((all_answers page flags w h s).1 t)),
      (λ f. pick_number page flags h ∙ ap (λ (b : Bool). cond b 10 0) (none_empty sets (λ s m. f s ((all_answers page flags w h s).0 m)))),
    )
  where
    ten : (b : Bool) → ◌≡◌ {A = ℕ} (cond b 10 0) 10 → b ≡ true
    ten true e = refl
    ten false e = absurd (omega arith)

pub demand_3_none : (page : List ℕ) (flags : ℕ) → flags < 2 ^ 16 → (r : Result ℕ Refusal) → PickSays page flags r → flag_no page flags ≡ 0
    → (no r ≡ 10) ↔ ((s : ℕ) → T (answer (program page flags) s) → ⊥)
demand_3_none page flags w r says h =
    let e : no r ≡ pick_no page flags = number_said 0 _ (pick_no page flags) r says in
    ((λ q. (none_number page flags w h).0 (sym e ∙ q)), (λ f. e ∙ (none_number page flags w h).1 f))

-- otherwise an answer set to which none is preferred, and the lowest-numbered of that kind
pub pick_stands : (page : List ℕ) (flags : ℕ) → flags < 2 ^ 16 → pick_no page flags ≡ 0 → (x : ℕ) → x ≡ set_or 0 (pick (program page flags))
    → T (answer (program page flags) x) × NonePreferred (program page flags) x
    × ((t : ℕ) → T (answer (program page flags) t) → NonePreferred (program page flags) t → x ≤ t)
unfolding set_or
pick_stands page flags w n x ex = go (pick p) refl
  where
    p : Program
    p = program page flags

    h : flag_no page flags ≡ 0
    h = pick_flags page flags n

    go : (o : Option ℕ) → pick p ≡ o → T (answer p x) × NonePreferred p x × ((t : ℕ) → T (answer p t) → NonePreferred p t → x ≤ t)
    go none e =
        let y : pick_no page flags ≡ 10 = (none_number page flags w h).1 (λ s t. (no_pick p).0 e s ((answers_exact p s).0 ((all_answers page flags w h s).1 t)).0 t) in
        absurd (omega arith)
    go (some s) e =
        let q : x ≡ s = ex ∙ ap (set_or 0) e in
        let l = pick_lowest p s e in
        let b = (best_is page flags w h s).0 l.1 in
        rw q (b.0, b.1, λ t u f. l.2 t ((answers_exact p t).0 ((all_answers page flags w h t).1 u)).0 ((best_is page flags w h t).1 (u, f)))

pub demand_3_pick : (page : List ℕ) (flags : ℕ) → flags < 2 ^ 16 → (x : ℕ) → PickSays page flags (Ok x)
    → T (answer (program page flags) x) × NonePreferred (program page flags) x
    × ((t : ℕ) → T (answer (program page flags) t) → NonePreferred (program page flags) t → x ≤ t)
demand_3_pick page flags w x says =
    let e = accepted_said 0 (set_or 0 (pick (program page flags))) (pick_no page flags) x says in
    pick_stands page flags w e.0 x e.1

-- every answer set that is not best has a best one preferred to it
pub demand_3_above : (page : List ℕ) (flags : ℕ) → flags < 2 ^ 16 → flag_no page flags ≡ 0 → (s : ℕ) → T (answer (program page flags) s)
    → (NonePreferred (program page flags) s → ⊥)
    → (b : ℕ) × (T (answer (program page flags) b) × NonePreferred (program page flags) b × Preferred (program page flags) b s)
demand_3_above page flags w h s t n =
    let p = program page flags in
    let x = best_above_answer p s ((answers_exact p s).0 ((all_answers page flags w h s).1 t)).0 t (λ b. n ((best_is page flags w h s).0 b).1) in
    let b = (best_is page flags w h x.0).0 x.1.1 in
    (x.0, (b.0, b.1, (preferred_says p x.0 s).0 x.1.2))
