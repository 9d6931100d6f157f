-- A set is an answer set exactly where some split program has it as answer set, for every program and every set.
-- From an answer set: choose for each row the option of its first head atom in the set. A set closed under the options is closed under the
-- reduct, and the set itself is closed under the options; so it is their least closed set too. From a split program: its rows are
-- satisfied, and the reduct's least set is closed under the options, so the set lies inside it. Assumes nothing.
use mathlib.Core.Path.{◌≡◌, refl, sym, ap, ◌∙◌, subst}
use mathlib.Core.Bool.{Bool, ◌&&◌}
use mathlib.Core.Logic.{⊎_elim, ◌↔◌}
use mathlib.Core.List.Memᴰ
use mathlib.Core.List.{List, [], ◌∷◌, ◌++◌, map, Memᴰ}
use Prim.Native.Nat.{ℕ, suc, ◌*◌, ◌<◌}
use native.Mathlib.Nat.{suc-mul}
use native.Mathlib.Omega.{arith}
use lib.Dec.{T, eqb, eqb→eq, eqb_refl}
use lib.ListN.{length, length-append}
use Rattle.atoms.specs.Atoms.{Inside}
use Rattle.atoms.proofs.Truth.{and_l, and_r, both}
use Rattle.atoms.proofs.Bits.{inside_both}
use Rattle.lpod.specs.Lists.{every, keep, gather}
use Rattle.lpod.specs.Rule.{Rule, Program, rules}
use Rattle.lpod.specs.Satisfied.{all_in, satisfies, satisfies_all, no_pair}
use Rattle.lpod.specs.Reduct.{Definite, reduct_row, reduct}
use Rattle.lpod.specs.Least.{least, Closed}
use Rattle.lpod.specs.Answer.{answer}
use Rattle.lpod.specs.Split.{Option, options_from, options_of, options, choices, option_count, split_number, gl_row, gl_reduct, bar_holds, split_answer, split_count}
use Rattle.lpod.proofs.Lists.{in_keep, keep_in, in_gather, gather_in, in_map, map_in, one_of, of_one}
use Rattle.lpod.proofs.LeastClosed.{all_mono, least_closed, least_inside, is_least}
use Rattle.lpod.proofs.AnswerParts.{answer_says}
use Rattle.lpod.proofs.RowOptions.{row_fit, row_own}
use Rattle.lpod.proofs.ReductIsHereThere.{self_closed}

-- ---- the list of choices holds every choice of one option for each row, and nothing else
abbrev pub Picks : List Rule → List Option → Type 0
Picks [] [] = Unit {0}
Picks [] (o ∷ C) = ⊥
Picks (r ∷ P) [] = ⊥
Picks (r ∷ P) (o ∷ C) = Memᴰ o (options r) × Picks P C

abbrev put : List (List Option) → Option → List (List Option)
put Cs o = map (λ C. o ∷ C) Cs

pub picks_in : (P : List Rule) (C : List Option) → Picks P C → Memᴰ C (choices P)
unfolding choices
picks_in [] [] p = Memᴰ.head refl
picks_in [] (o ∷ C) p = absurd p
picks_in (r ∷ P) [] p = absurd p
picks_in (r ∷ P) (o ∷ C) p = gather_in (put (choices P)) (options r) o (o ∷ C) p.0 (map_in (λ D. o ∷ D) (choices P) C (picks_in P C p.1))

pub in_picks : (P : List Rule) (C : List Option) → Memᴰ C (choices P) → Picks P C
unfolding choices
in_picks [] C m = ⊎_elim (λ e. subst (λ (x : List Option). Picks [] x) (sym e) tt) (λ n. elim n [ ]) (Memᴰ.cases_cons m)
in_picks (r ∷ P) C m =
    let g = in_gather (put (choices P)) (options r) C m in
    let h = in_map (λ D. g.0 ∷ D) (choices P) C g.1.1 in
    subst (λ (x : List Option). Picks (r ∷ P) x) (sym h.1.1) (g.1.0, in_picks P h.0 h.1.0)

-- ---- and it has as many as the product of the head counts
length-map : {A B : Type 0} (f : A → B) (l : List A) → length (map f l) ≡ length l
length-map f [] = refl
length-map f (x ∷ l) = ap suc (length-map f l)

length_put : (os : List Option) (Cs : List (List Option)) → length (gather (put Cs) os) ≡ length os * length Cs
unfolding gather
length_put [] Cs = omega arith
length_put (o ∷ os) Cs =
    length-append (put Cs o) (gather (put Cs) os) ∙ omega (arith, length-map (λ C. o ∷ C) Cs, length_put os Cs, suc-mul (length os) (length Cs))

length_options : (r : Rule) (e hs : List ℕ) → length (options_from r e hs) ≡ length hs
unfolding options_from
length_options r e [] = refl
length_options r e (c ∷ cs) = ap suc (length_options r (e ++ (c ∷ [])) cs)

option_count_lem : (r : Rule) (hs : List ℕ) → length (options_of r hs) ≡ option_count hs
unfolding options_of option_count
option_count_lem r [] = refl
option_count_lem r (c ∷ cs) = length_options r [] (c ∷ cs)

pub split_number_lem : (P : List Rule) → length (choices P) ≡ split_number P
unfolding choices split_number options
split_number_lem [] = refl
split_number_lem (r ∷ P) = length_put (options_of r r.head) (choices P) ∙ rw (option_count_lem r r.head, split_number_lem P)

-- ---- all rows
record Chosen (P : List Rule) (s : ℕ) : Type 0 where
  pub choice : List Option
  pub picks : Picks P choice
  pub bars : T (every (bar_holds s) choice)
  pub covers : (d : Definite) → Memᴰ d (reduct P s) → Memᴰ d (gl_reduct choice s)
  pub closed : Closed (gl_reduct choice s) s

choose : (P : List Rule) (s : ℕ) → T (satisfies_all s P) → Chosen P s
unfolding satisfies_all every reduct gl_reduct gather
choose [] s t = record { choice = []; picks = tt; bars = tt; covers = λ d m. m; closed = λ d m k. elim m [ ] }
choose (r ∷ P) s t =
    let f = row_fit r s (and_l (satisfies s r) (every (satisfies s) P) t) in
    let g = choose P s (and_r (satisfies s r) (every (satisfies s) P) t) in
    record {
      choice = f.option ∷ g.choice;
      picks = (f.among, g.picks);
      bars = both (bar_holds s f.option) (every (bar_holds s) g.choice) f.bar g.bars;
      covers = λ d m.
          ⊎_elim (λ n. Memᴰ.append_left (gather (gl_row s) g.choice) (f.covers d n)) (λ n. Memᴰ.append_right (gl_row s f.option) (g.covers d n))
          (Memᴰ.append_cases (reduct_row r s) m);
      closed = λ d m k. ⊎_elim (λ n. f.closed d n k) (λ n. g.closed d n k) (Memᴰ.append_cases (gl_row s f.option) m);
    }

-- a split program that has s as answer set satisfies the rows, and what it gives where the body is in s is the reduct's
own : (P : List Rule) (C : List Option) (s : ℕ) → Picks P C → T (every (bar_holds s) C) → Closed (gl_reduct C s) s
    → T (satisfies_all s P) × ((d : Definite) → Memᴰ d (gl_reduct C s) → T (all_in d.body s) → Memᴰ d (reduct P s))
unfolding satisfies_all every reduct gl_reduct gather
own [] [] s p b k = (tt, λ d m a. m)
own [] (o ∷ C) s p b k = absurd p
own (r ∷ P) [] s p b k = absurd p
own (r ∷ P) (o ∷ C) s p b k =
    let f = row_own r s o p.0 (and_l (bar_holds s o) (every (bar_holds s) C) b) (λ d m. k d (Memᴰ.append_left (gather (gl_row s) C) m)) in
    let g = own P C s p.1 (and_r (bar_holds s o) (every (bar_holds s) C) b) (λ d m. k d (Memᴰ.append_right (gl_row s o) m)) in (
      both (satisfies s r) (every (satisfies s) P) f.0 g.0,
      (λ d m a.
          ⊎_elim (λ n. Memᴰ.append_left (gather (λ x. reduct_row x s) P) (f.1 d n a)) (λ n. Memᴰ.append_right (reduct_row r s) (g.1 d n a))
          (Memᴰ.append_cases (gl_row s o) m)),
    )

-- ---- the theorem
module _ (p : Program) (s : ℕ) where
  P : List Rule
  P = rules p

  Q : Bool
  Q = no_pair p.pairs s

  counted : List Option → Bool
  counted C = no_pair p.pairs s && split_answer C s

  to : T (answer p s) → 0 < split_count p s
  unfolding split_count split_answer P Q counted
  to t =
      let a = (answer_says p s).0 t in
      let c = choose P s a.satisfied in
      let l : least (gl_reduct c.choice s) ≡ s =
      (is_least (gl_reduct c.choice s) s).1
      (record { itself = c.closed; smallest = λ H k. subst (λ (x : ℕ). Inside x H) a.supported (least_inside (reduct P s) H (λ d m. k d (c.covers d m))) }) in
      of_one (keep counted (choices P)) c.choice
      (keep_in counted (choices P) c.choice (picks_in P c.choice c.picks)
      (both Q (split_answer c.choice s) a.pair (both (every (bar_holds s) c.choice) _ c.bars (rw l (eqb_refl s)))))

  from : 0 < split_count p s → T (answer p s)
  unfolding split_count split_answer P Q counted
  from h =
      let c = one_of (keep counted (choices P)) h in
      let i = in_keep counted (choices P) c.0 c.1 in
      let C = c.0 in
      let u = and_r Q (every (bar_holds s) C && eqb (least (gl_reduct C s)) s) i.1 in
      let e : least (gl_reduct C s) ≡ s = eqb→eq (least (gl_reduct C s)) s (and_r (every (bar_holds s) C) _ u) in
      let w =
      own P C s (in_picks P C i.0) (and_l (every (bar_holds s) C) (eqb (least (gl_reduct C s)) s) u)
      (subst (λ (x : ℕ). Closed (gl_reduct C s) x) e (least_closed (gl_reduct C s))) in
      let L = least (reduct P s) in
      let down : Inside L s = least_inside (reduct P s) s (self_closed P s) in
      let up : Inside s L =
      subst (λ (x : ℕ). Inside x L) e
      (least_inside (gl_reduct C s) L (λ d m a. least_closed (reduct P s) d (w.1 d m (all_mono d.body L s down a)) a)) in
      (answer_says p s).1 (record { pair = and_l Q _ i.1; satisfied = w.0; supported = inside_both L s down up })

  pub reduct_is_split : T (answer p s) ↔ (0 < split_count p s)
  reduct_is_split = (to, from)
