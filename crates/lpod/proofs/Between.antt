-- An answer set lies between the flags and flags ∪ head atoms. A raised atom's row has no body, so the set holds the atom; and the least
-- closed set holds only atoms that some rule of the reduct gives, which are head atoms or raised. Assumes nothing.
use mathlib.Core.Path.{◌≡◌, sym, subst}
use mathlib.Core.Bool.{or-false}
use mathlib.Core.Logic.{◌⊎◌, inl, inr, ⊎_elim}
use mathlib.Core.List.Memᴰ
use mathlib.Core.List.{List, [], ◌∷◌, ◌++◌, Memᴰ}
use Prim.Native.Nat.{ℕ, ◌^◌, ◌<◌}
use native.Mathlib.Omega.{arith}
use lib.Dec.{T}
use Rattle.atoms.specs.Atoms.{has, insert, union, Inside}
use Rattle.atoms.proofs.Truth.{or_l, or_r}
use Rattle.atoms.proofs.Bits.{has_or, has_below, in_insert, at_insert}
use Rattle.lpod.specs.Lists.{every, some, keep, below}
use Rattle.lpod.specs.Rule.{Rule, Program, rules, raised, fact, most_atoms, set_of, head_atoms}
use Rattle.lpod.specs.Satisfied.{all_in, some_in, none_in, body_holds, satisfies}
use Rattle.lpod.specs.Reduct.{reduct_row, reduct}
use Rattle.lpod.specs.Least.{Closed}
use Rattle.lpod.specs.Answer.{answer}
use Rattle.lpod.proofs.Lists.{in_map, map_in, in_keep, keep_in, numbers_in, in_gather}
use Rattle.lpod.proofs.LeastClosed.{least_inside}
use Rattle.lpod.proofs.FirstAtom.{row_of}
use Rattle.lpod.proofs.AnswerParts.{answer_says, answer_satisfies}

-- a list as a set
of_list : (l : List ℕ) (a : ℕ) → Memᴰ a l → T (has (set_of l) a)
unfolding set_of
of_list [] a m = elim m [ ]
of_list (b ∷ l) a m =
    ⊎_elim (λ e. subst (λ (x : ℕ). T (has (insert (set_of l) b) x)) (sym e) (at_insert (set_of l) b)) (λ n. in_insert (set_of l) b a (of_list l a n)) (Memᴰ.cases_cons m)

of_heads : (P : List Rule) (r : Rule) (a : ℕ) → Memᴰ r P → Memᴰ a r.head → Memᴰ a (head_atoms P)
unfolding head_atoms
of_heads [] r a m n = elim m [ ]
of_heads (q ∷ P) r a m n =
    ⊎_elim (λ e. Memᴰ.append_left (head_atoms P) (subst (λ (x : Rule). Memᴰ a x.head) e n)) (λ i. Memᴰ.append_right q.head (of_heads P r a i n)) (Memᴰ.cases_cons m)

-- a raised atom has its row, and a row that was added is a raised atom's
pub raised_row : (f a : ℕ) → f < 2 ^ 16 → T (has f a) → Memᴰ (fact a) (raised f)
unfolding raised
raised_row f a l t = map_in fact (keep (has f) (below most_atoms)) a (keep_in (has f) (below most_atoms) a (numbers_in 0 16 a (omega arith) (has_below 16 f a l t)) t)

pub row_raised : (f : ℕ) (r : Rule) → Memᴰ r (raised f) → (a : ℕ) × ((r ≡ fact a) × T (has f a))
unfolding raised
row_raised f r m =
    let g = in_map fact (keep (has f) (below most_atoms)) r m in
    (g.0, (g.1.1, (in_keep (has f) (below most_atoms) g.0 g.1.0).1))

-- to satisfy the row of a raised atom is to hold it
pub fact_satisfied : (s a : ℕ) → satisfies s (fact a) ≡ has s a
unfolding satisfies body_holds all_in none_in some_in some every fact
fact_satisfied s a = or-false (has s a)

module _ (p : Program) (s : ℕ) (t : T (answer p s)) where
  pub flags_inside : p.flags < 2 ^ 16 → Inside p.flags s
  unfolding rules
  flags_inside l a h = subst T (fact_satisfied s a) (answer_satisfies p s t (fact a) (Memᴰ.append_right p.rows (raised_row p.flags a l h)))

  top : ℕ
  top = union p.flags (set_of (head_atoms p.rows))

  in_top : (a : ℕ) → T (has p.flags a) ⊎ T (has (set_of (head_atoms p.rows)) a) → T (has top a)
  unfolding top
  in_top a h =
      subst T (sym (has_or p.flags (set_of (head_atoms p.rows)) a))
      (⊎_elim (λ x. or_l (has p.flags a) _ x) (λ x. or_r (has p.flags a) _ x) h)

  top_closed : Closed (reduct (rules p) s) top
  unfolding reduct rules fact
  top_closed d m k =
      let g = in_gather (λ r. reduct_row r s) (p.rows ++ raised p.flags) d m in
      let h = (row_of g.0 s d g.1.1).0 in
      ⊎_elim (λ n. in_top d.atom (inr (of_list (head_atoms p.rows) d.atom (of_heads p.rows g.0 d.atom n h))))
      (λ n.
      let w = row_raised p.flags g.0 n in
      let e : d.atom ≡ w.0 = ⊎_elim (λ x. x) (λ i. elim i [ ]) (Memᴰ.cases_cons (subst (λ (x : Rule). Memᴰ d.atom x.head) w.1.0 h)) in
      in_top d.atom (inl (subst (λ (a : ℕ). T (has p.flags a)) (sym e) w.1.1)))
      (Memᴰ.append_cases p.rows g.1.0)

  pub inside_heads : Inside s (union p.flags (set_of (head_atoms p.rows)))
  unfolding top
  inside_heads = subst (λ (x : ℕ). Inside x top) ((answer_says p s).0 t).supported (least_inside (reduct (rules p) s) top top_closed)
