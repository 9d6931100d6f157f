-- What ranks two sets. `over rows` is the preference of a program of these rows that raises no atom, so the laws of the preference hold of it. A set
-- that is over M has degree 1 wherever M has; so nothing is over a set that has degree 1 in every row. Rows with at most one head atom have degree 1
-- in every set that satisfies them: they do not rank such sets, and nor do the rows of raised atoms. Assumes nothing.
use mathlib.Core.Path.{◌≡◌, refl, sym, ap, ◌∙◌, subst}
use mathlib.Core.Bool.{false}
use mathlib.Core.Logic.{◌⊎◌, inl, inr, ⊎_elim, ◌↔◌}
use mathlib.Core.List.{List, [], ◌∷◌, ◌++◌, map, append-nil, Memᴰ}
use Prim.Native.Nat.{ℕ, ◌+◌, ◌≤◌, ◌<◌}
use native.Mathlib.Omega.{arith}
use native.Mathlib.Numerals.{add-one}
use native.Mathlib.Decide.{ℕ_discrete, dec_lt}
use lib.Dec.{T, lt→ltb, ltb→lt}
use lib.ListN.{length, get_or, drop, drop_of_length-le}
use lib.Seq.{drop-cons}
use Rattle.atoms.specs.Atoms.{has}
use Rattle.atoms.proofs.Truth.{no_false, same_yes, yes_true}
use Rattle.lpod.specs.Lists.{keep, numbers}
use Rattle.lpod.specs.Rule.{Rule, Program, rules, raised, fact}
use Rattle.lpod.specs.Satisfied.{satisfies, satisfies_all}
use Rattle.lpod.specs.Degree.{degree}
use Rattle.lpod.specs.Preferred.{preferred}
use Rattle.lpod.proofs.Lists.{every_at, in_map, map_in, keep_in, in_keep}
use Rattle.lpod.proofs.Between.{row_raised}
use Rattle.lpod.proofs.DegreesInRange.{degree_from, degree_to}
use Rattle.lpod.proofs.InclusionOrder.{Within, Preferred, preferred_says, preferred_irreflexive, preferred_transitive}
use Rattle.words.specs.Coded.{rule_in, rules_in, program_in, rules_with, head_length}
use Rattle.words.proofs.Places.{digits_length}
use Rattle.lanes.specs.Rank.{over, ranks}

-- ---- rows alone are a program
alone : List ℕ → Program
alone rows = program_in rows [] 0

alone_rules : (rows : List ℕ) → rules (alone rows) ≡ rules_in rows
unfolding alone rules program_in raised keep numbers has
alone_rules rows = append-nil (rules_in rows)

over_preferred : (rows : List ℕ) (M N : ℕ) → over rows M N ≡ preferred (alone rows) M N
unfolding over preferred
over_preferred rows M N = rw (alone_rules rows) refl

over_says : (rows : List ℕ) (M N : ℕ) → T (over rows M N) ↔ Preferred (alone rows) M N
over_says rows M N =
    ((λ t. (preferred_says (alone rows) M N).0 (subst T (over_preferred rows M N) t)), (λ x. subst T (sym (over_preferred rows M N)) ((preferred_says (alone rows) M N).1 x)))

-- ---- an order
pub over_irreflexive : (rows : List ℕ) (M : ℕ) → T (over rows M M) → ⊥
over_irreflexive rows M t = preferred_irreflexive (alone rows) M (subst T (over_preferred rows M M) t)

pub over_transitive : (rows : List ℕ) (M N O : ℕ) → T (over rows M N) → T (over rows N O) → T (over rows M O)
over_transitive rows M N O s t =
    subst T (sym (over_preferred rows M O)) (preferred_transitive (alone rows) M N O (subst T (over_preferred rows M N) s) (subst T (over_preferred rows N O) t))

-- ---- degree 1 comes first
pub over_first : (rows : List ℕ) (s M : ℕ) → T (over rows s M) → (r : Rule) → Memᴰ r (rules_in rows) → degree M r ≡ 1 → degree s r ≡ 1
over_first rows s M t r m e =
    let x = (over_says rows s M).0 t in
    let n : Memᴰ r (rules (alone rows)) = subst (Memᴰ r) (sym (alone_rules rows)) m in
    go x n (ℕ_discrete x.k 1)
  where
    go : (x : Preferred (alone rows) s M) → Memᴰ r (rules (alone rows)) → Dec (x.k ≡ 1) → degree s r ≡ 1
    go x n (yes k) = x.part r n (e ∙ sym k) ∙ k
    go x n (no k) = (x.equal 1 (omega arith) (omega (arith, x.from))).0 r n e

pub over_none : (rows : List ℕ) (s M : ℕ) → ((r : Rule) → Memᴰ r (rules_in rows) → degree M r ≡ 1) → over rows s M ≡ false
over_none rows s M f = no_false (over rows s M) (λ t.
    let x = (over_says rows s M).0 t in
    x.strict (λ r m e.
    let n : Memᴰ r (rules_in rows) = subst (Memᴰ r) (alone_rules rows) m in
    f r n ∙ sym (over_first rows s M t r n (f r n)) ∙ e))

-- ---- rules that two sets have in degree 1 do not rank them
module _ (p q : Program) (M N : ℕ) (part : (r : Rule) → Memᴰ r (rules q) → Memᴰ r (rules p))
    (rest : (r : Rule) → Memᴰ r (rules p) → Memᴰ r (rules q) ⊎ ((degree M r ≡ 1) × (degree N r ≡ 1))) where
  less : (k A B : ℕ) → Within (rules p) k A B → Within (rules q) k A B
  less k A B f r m = f r (part r m)

  more : (k : ℕ) → Within (rules q) k M N → Within (rules p) k M N
  more k f r m e = ⊎_elim (λ n. f r n e) (λ d. d.0 ∙ sym d.1 ∙ e) (rest r m)

  back : (k : ℕ) → Within (rules q) k N M → Within (rules p) k N M
  back k f r m e = ⊎_elim (λ n. f r n e) (λ d. d.1 ∙ sym d.0 ∙ e) (rest r m)

  same_preferred : preferred p M N ≡ preferred q M N
  same_preferred = same_yes (preferred p M N) (preferred q M N)
      (λ t. let x = (preferred_says p M N).0 t in (preferred_says q M N).1 (record {
        k = x.k;
        from = x.from;
        part = less x.k M N x.part;
        strict = λ f. x.strict (back x.k f);
        equal = λ j l h. (less j M N (x.equal j l h).0, less j N M (x.equal j l h).1);
      }))
      (λ t. let x = (preferred_says q M N).0 t in (preferred_says p M N).1 (record {
        k = x.k;
        from = x.from;
        part = more x.k x.part;
        strict = λ f. x.strict (less x.k N M f);
        equal = λ j l h. (more j (x.equal j l h).0, back j (x.equal j l h).1);
      }))

-- ---- the rows that rank
short_degree : (s : ℕ) (r : Rule) → T (satisfies s r) → length r.head ≤ 1 → degree s r ≡ 1
short_degree s r t h = omega (arith, degree_from s r t, degree_to s r)

fact_short : (a : ℕ) (r : Rule) → r ≡ fact a → length r.head ≡ 1
unfolding fact
fact_short a r e = ap (λ (x : Rule). length x.head) e

pub word_heads : (w : ℕ) (r : Rule) → r ≡ rule_in w → length r.head ≡ head_length w
unfolding rule_in
word_heads w r e = ap (λ (x : Rule). length x.head) e ∙ digits_length (head_length w) _

pub ranking_law : (rows : List ℕ) (flags s M : ℕ) → T (satisfies_all s (rules_with rows flags)) → T (satisfies_all M (rules_with rows flags))
    → preferred (program_in rows [] flags) s M ≡ over (keep ranks rows) s M
unfolding satisfies_all rules_with rules program_in rules_in
ranking_law rows flags s M ts tm =
    same_preferred (program_in rows [] flags) (alone (keep ranks rows)) s M part rest ∙ sym (over_preferred (keep ranks rows) s M)
  where
    one : (r : Rule) → Memᴰ r (map rule_in rows ++ raised flags) → length r.head ≤ 1 → (degree s r ≡ 1) × (degree M r ≡ 1)
    one r m h = (short_degree s r (every_at (satisfies s) _ ts r m) h, short_degree M r (every_at (satisfies M) _ tm r m) h)

    part : (r : Rule) → Memᴰ r (rules (alone (keep ranks rows))) → Memᴰ r (rules (program_in rows [] flags))
    part r m =
        let n : Memᴰ r (map rule_in (keep ranks rows)) = subst (Memᴰ r) (alone_rules (keep ranks rows)) m in
        let x = in_map rule_in (keep ranks rows) r n in
        let y = in_keep ranks rows x.0 x.1.0 in
        mathlib.Core.List.Memᴰ.append_left (raised flags) (subst (λ (q : Rule). Memᴰ q (map rule_in rows)) (sym x.1.1) (map_in rule_in rows x.0 y.0))

    rest : (r : Rule) → Memᴰ r (rules (program_in rows [] flags)) → Memᴰ r (rules (alone (keep ranks rows))) ⊎ ((degree s r ≡ 1) × (degree M r ≡ 1))
    rest r m = ⊎_elim row (λ n. inr (one r m (added n))) (mathlib.Core.List.Memᴰ.append_cases (map rule_in rows) m)
      where
        added : Memᴰ r (raised flags) → length r.head ≤ 1
        added n = let x = row_raised flags r n in omega (arith, fact_short x.0 r x.1.0)

        row : Memᴰ r (map rule_in rows) → Memᴰ r (rules (alone (keep ranks rows))) ⊎ ((degree s r ≡ 1) × (degree M r ≡ 1))
        row n = let x = in_map rule_in rows r n in go x (dec_lt 1 (head_length x.0))
          where
            go : (x : (w : ℕ) × (Memᴰ w rows × (r ≡ rule_in w))) → Dec (1 < head_length x.0)
                → Memᴰ r (rules (alone (keep ranks rows))) ⊎ ((degree s r ≡ 1) × (degree M r ≡ 1))
            go x (yes h) =
                let i = map_in rule_in (keep ranks rows) x.0 (keep_in ranks rows x.0 x.1.0 (lt→ltb 1 (head_length x.0) h)) in
                inl (subst (Memᴰ r) (sym (alone_rules (keep ranks rows))) (subst (λ (q : Rule). Memᴰ q (map rule_in (keep ranks rows))) (sym x.1.1) i))
            go x (no h) = inr (one r m (omega (arith, h, word_heads x.0 r x.1.1)))

-- ---- row after row: the row in hand ranks or it does not
module _ (rows : List ℕ) (n : ℕ) (h : n < length rows) where
  row_in_hand : keep ranks (drop n rows) ≡ keep ranks (get_or rows n 0 ∷ drop (n + 1) rows)
  row_in_hand = ap (keep ranks) (drop-cons rows n 0 h ∙ rw (← add-one n) refl)

  pub keep_on : 1 < head_length (get_or rows n 0) → keep ranks (drop n rows) ≡ get_or rows n 0 ∷ keep ranks (drop (n + 1) rows)
  unfolding keep
  keep_on i = row_in_hand ∙ rw (yes_true (ranks (get_or rows n 0)) (lt→ltb 1 (head_length (get_or rows n 0)) i)) refl

  pub keep_off : head_length (get_or rows n 0) ≤ 1 → keep ranks (drop n rows) ≡ keep ranks (drop (n + 1) rows)
  unfolding keep
  keep_off i =
      row_in_hand ∙ rw (no_false (ranks (get_or rows n 0)) (λ t. let k = ltb→lt 1 (head_length (get_or rows n 0)) t in omega (arith, k, i))) refl

pub keep_none : (rows : List ℕ) (n : ℕ) → length rows ≤ n → keep ranks (drop n rows) ≡ []
unfolding keep
keep_none rows n h = ap (keep ranks) (drop_of_length-le rows h)
