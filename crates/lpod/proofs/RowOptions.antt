-- One row and its options, against a set s. A satisfied row has an option that gives what the row gives the reduct and under which s is
-- closed: that of its first head atom in s. And of any option under which s is closed, what it gives where its body is in s is the
-- row's own rule of the reduct; such an option satisfies its row. By induction on the head. Assumes nothing.
use mathlib.Core.Path.{◌≡◌, refl, sym, ap, ◌∙◌, subst}
use mathlib.Core.Bool.{Bool, true, false, ◌||◌, not, cond}
use mathlib.Core.Logic.{⊎_elim}
use mathlib.Core.List.Memᴰ
use mathlib.Core.List.{List, [], ◌∷◌, ◌++◌, append_assoc, Memᴰ}
use Prim.Native.Nat.{ℕ}
use lib.Dec.{T}
use Rattle.atoms.specs.Atoms.{has}
use Rattle.atoms.proofs.Truth.{and_l, and_r, both, imp, imp_at, or_l, or_cases, true_yes, false_no, no_false, yes_true}
use Rattle.lpod.specs.Lists.{some}
use Rattle.lpod.specs.Rule.{Rule}
use Rattle.lpod.specs.Satisfied.{all_in, some_in, none_in, body_holds, satisfies}
use Rattle.lpod.specs.Reduct.{Definite, reduct_row}
use Rattle.lpod.specs.Least.{Closed}
use Rattle.lpod.specs.Split.{Option, gives, bars, options_from, options_of, options, gl_row, bar_holds}
use Rattle.lpod.proofs.Lists.{some_append}
use Rattle.lpod.proofs.FirstAtom.{first_in, ifs, row_first, some_more}

-- ---- lists of atoms
some_join : (l m : List ℕ) (s : ℕ) → some_in (l ++ m) s ≡ (some_in l s || some_in m s)
unfolding some_in
some_join l m s = some_append (has s) l m

some_here : (c : ℕ) (cs : List ℕ) (s : ℕ) → T (has s c) → T (some_in (c ∷ cs) s)
unfolding some_in some
some_here c cs s t = or_l (has s c) (some (has s) cs) t

first_join : (l m : List ℕ) (s : ℕ) → some_in l s ≡ false → first_in (l ++ m) s ≡ first_in m s
unfolding some_in some first_in
first_join [] m s e = refl
first_join (a ∷ l) m s e = go (has s a) e (first_join l m s)
  where
    go : (b : Bool) → (b || some (has s) l) ≡ false → (some (has s) l ≡ false → first_in (l ++ m) s ≡ first_in m s) → cond b (a ∷ []) (first_in (l ++ m) s) ≡ first_in m s
    go true e ih = absurd (false_no e tt)
    go false e ih = ih e

or_false_l : (a b : Bool) → (a || b) ≡ false → a ≡ false
or_false_l true b e = e
or_false_l false b e = refl

or_false_r : (a b : Bool) → (a || b) ≡ false → b ≡ false
or_false_r true b e = absurd (false_no e tt)
or_false_r false b e = e

-- ---- one row. The rule that a row with this head has in the reduct, and the option of head atom c with those before it
abbrev core : Rule → List ℕ → ℕ → List Definite
core r hs s = cond (none_in r.neg s) (ifs (first_in hs s) r.pos) []

abbrev opt : Rule → List ℕ → ℕ → Option
opt r e c = gives c r.pos (r.neg ++ e)

abbrev rule : Rule → ℕ → Definite
rule r c = record { atom = c; body = r.pos }

-- what the option gives: its one rule, where no negative atom and no atom before it is in s
gl_at : (r : Rule) (e : List ℕ) (c s : ℕ) → some_in r.neg s ≡ false → some_in e s ≡ false → gl_row s (opt r e c) ≡ rule r c ∷ []
unfolding gl_row none_in
gl_at r e c s n h =
    let q : some_in (r.neg ++ e) s ≡ false = some_join r.neg e s ∙ rw (n, h) in
    ap (λ (b : Bool). cond (not b) (rule r c ∷ []) []) q

record GlIn (r : Rule) (e : List ℕ) (c s : ℕ) (d : Definite) : Type 0 where
  pub neg : some_in r.neg s ≡ false
  pub before : some_in e s ≡ false
  pub is : d ≡ rule r c

gl_in : (r : Rule) (e : List ℕ) (c s : ℕ) (d : Definite) → Memᴰ d (gl_row s (opt r e c)) → GlIn r e c s d
unfolding gl_row none_in
gl_in r e c s d m = go (some_in (r.neg ++ e) s) refl m
  where
    go : (b : Bool) → some_in (r.neg ++ e) s ≡ b → Memᴰ d (cond (not b) (rule r c ∷ []) []) → GlIn r e c s d
    go true q m = elim m [ ]
    go false q m =
        let p : (some_in r.neg s || some_in e s) ≡ false = sym (some_join r.neg e s) ∙ q in
        record {
          neg = or_false_l (some_in r.neg s) (some_in e s) p;
          before = or_false_r (some_in r.neg s) (some_in e s) p;
          is = ⊎_elim (λ x. x) (λ n. elim n [ ]) (Memᴰ.cases_cons m);
        }

body_of : (r : Rule) (s : ℕ) → T (all_in r.pos s) → some_in r.neg s ≡ false → T (body_holds r s)
unfolding body_holds none_in
body_of r s a n = both (all_in r.pos s) _ a (subst (λ (b : Bool). T (not b)) (sym n) tt)

body_all : (r : Rule) (s : ℕ) → T (body_holds r s) → T (all_in r.pos s)
unfolding body_holds
body_all r s t = and_l (all_in r.pos s) _ t

body_none : (r : Rule) (s : ℕ) → T (body_holds r s) → some_in r.neg s ≡ false
unfolding body_holds none_in
body_none r s t = no_false (some_in r.neg s) (not_yes (some_in r.neg s) (and_r (all_in r.pos s) _ t))
  where
    not_yes : (b : Bool) → T (not b) → T b → ⊥
    not_yes true t u = t
    not_yes false t u = u

-- ---- from an answer set to a choice
-- an option that gives what the row gives the reduct, and under which s is closed
pub record Fit (r : Rule) (s : ℕ) (os : List Option) (D : List Definite) : Type 0 where
  pub option : Option
  pub among : Memᴰ option os
  pub bar : T (bar_holds s option)
  pub covers : (d : Definite) → Memᴰ d D → Memᴰ d (gl_row s option)
  pub closed : Closed (gl_row s option) s

-- the option of c, where no atom before c is in s
module _ (r : Rule) (e : List ℕ) (c s : ℕ) (os : List Option) (h : some_in e s ≡ false) where
  core_gl : (cs : List ℕ) → has s c ≡ true → (d : Definite) → Memᴰ d (core r (c ∷ cs) s) → Memᴰ d (gl_row s (opt r e c))
  unfolding none_in first_in ifs
  core_gl cs t d m = go (some_in r.neg s) refl (subst (λ (b : Bool). Memᴰ d (cond (not (some_in r.neg s)) (ifs (cond b (c ∷ []) (first_in cs s)) r.pos) [])) t m)
    where
      go : (b : Bool) → some_in r.neg s ≡ b → Memᴰ d (cond (not b) (rule r c ∷ []) []) → Memᴰ d (gl_row s (opt r e c))
      go true q m = elim m [ ]
      go false q m = subst (λ (D : List Definite). Memᴰ d D) (sym (gl_at r e c s q h)) m

  core_none : has s c ≡ false → (d : Definite) → Memᴰ d (core r (c ∷ []) s) → Memᴰ d (gl_row s (opt r e c))
  unfolding first_in ifs
  core_none t d m = go (none_in r.neg s) (subst (λ (b : Bool). Memᴰ d (cond (none_in r.neg s) (ifs (cond b (c ∷ []) []) r.pos) [])) t m)
    where
      go : (b : Bool) → Memᴰ d (cond b [] []) → Memᴰ d (gl_row s (opt r e c))
      go true m = elim m [ ]
      go false m = elim m [ ]

  gl_closed : (T (body_holds r s) → T (has s c)) → Closed (gl_row s (opt r e c)) s
  gl_closed f d m k =
      let g = gl_in r e c s d m in
      subst (λ (x : Definite). T (has s x.atom)) (sym g.is) (f (body_of r s (subst (λ (x : Definite). T (all_in x.body s)) g.is k) g.neg))

  here : (D : List Definite) → Memᴰ (opt r e c) os → ((d : Definite) → Memᴰ d D → Memᴰ d (gl_row s (opt r e c))) → (T (body_holds r s) → T (has s c)) → Fit r s os D
  unfolding bar_holds
  here D m cov f = record { option = opt r e c; among = m; bar = tt; covers = cov; closed = gl_closed f }

find : (r : Rule) (e : List ℕ) (c : ℕ) (cs : List ℕ) (s : ℕ) → some_in e s ≡ false → (T (body_holds r s) → T (some_in (c ∷ cs) s))
    → Fit r s (options_from r e (c ∷ cs)) (core r (c ∷ cs) s)
unfolding options_from some_in some first_in
find r e c [] s h f = go (has s c) refl
  where
    only : T (some_in (c ∷ []) s) → T (has s c)
    only t = ⊎_elim (λ x. x) (λ x. absurd x) (or_cases (has s c) false t)

    go : (t : Bool) → has s c ≡ t → Fit r s (opt r e c ∷ []) (core r (c ∷ []) s)
    go true q = here r e c s (opt r e c ∷ []) h (core r (c ∷ []) s) (Memᴰ.head refl) (core_gl r e c s (opt r e c ∷ []) h [] q) (λ b. true_yes q)
    go false q = here r e c s (opt r e c ∷ []) h (core r (c ∷ []) s) (Memᴰ.head refl) (core_none r e c s (opt r e c ∷ []) h q) (λ b. only (f b))
find r e c (d ∷ cs) s h f = go (has s c) refl (find r (e ++ (c ∷ [])) d cs s)
  where
    os : List Option
    os = opt r e c ∷ options_from r (e ++ (c ∷ [])) (d ∷ cs)

    rest : has s c ≡ false → T (some_in (c ∷ d ∷ cs) s) → T (some_in (d ∷ cs) s)
    rest q t = ⊎_elim (λ x. absurd (false_no q x)) (λ x. x) (or_cases (has s c) (some (has s) (d ∷ cs)) t)

    skip : has s c ≡ false → core r (c ∷ d ∷ cs) s ≡ core r (d ∷ cs) s
    skip q = ap (λ (b : Bool). cond (none_in r.neg s) (ifs (cond b (c ∷ []) (first_in (d ∷ cs) s)) r.pos) []) q

    go : (t : Bool) → has s c ≡ t → (some_in (e ++ (c ∷ [])) s ≡ false → (T (body_holds r s) → T (some_in (d ∷ cs) s)) → Fit r s (options_from r (e ++ (c ∷ [])) (d ∷ cs)) (core r (d ∷ cs) s))
        → Fit r s os (core r (c ∷ d ∷ cs) s)
    go true q ih = here r e c s os h (core r (c ∷ d ∷ cs) s) (Memᴰ.head refl) (core_gl r e c s os h (d ∷ cs) q) (λ b. true_yes q)
    go false q ih =
        let g = ih (some_more e c s ∙ rw (h, q)) (λ b. rest q (f b)) in
        record {
          option = g.option;
          among = Memᴰ.tail g.among;
          bar = g.bar;
          covers = λ x m. g.covers x (subst (λ (D : List Definite). Memᴰ x D) (skip q) m);
          closed = g.closed;
        }

pub row_fit : (r : Rule) (s : ℕ) → T (satisfies s r) → Fit r s (options r) (reduct_row r s)
unfolding options options_of satisfies some_in some bar_holds body_holds gl_row first_in ifs
row_fit r s t =
    subst (λ (D : List Definite). Fit r s (options_of r r.head) D) (sym (row_first r s)) (go r.head refl)
  where
    bar : T (not (body_holds r s) || some_in [] s) → T (not (body_holds r s))
    bar t = ⊎_elim (λ x. x) (λ x. absurd x) (or_cases (not (body_holds r s)) false t)

    bodyless : (b : Bool) (d : Definite) → Memᴰ d (cond b [] []) → Memᴰ d []
    bodyless true d m = m
    bodyless false d m = m

    go : (hs : List ℕ) → r.head ≡ hs → Fit r s (options_of r hs) (core r r.head s)
    go [] e =
        record {
          option = bars r.pos r.neg;
          among = Memᴰ.head refl;
          bar = bar (subst (λ (l : List ℕ). T (not (body_holds r s) || some_in l s)) e t);
          covers = λ d m. bodyless (none_in r.neg s) d (subst (λ (l : List ℕ). Memᴰ d (core r l s)) e m);
          closed = λ d m k. elim m [ ];
        }
    go (c ∷ cs) e =
        subst (λ (l : List ℕ). Fit r s (options_from r [] (c ∷ cs)) (core r l s)) (sym e)
        (find r [] c cs s refl (λ b. subst (λ (l : List ℕ). T (some_in l s)) e (imp_at (body_holds r s) (some_in r.head s) t b)))

-- ---- from an option to the row
-- what is known of an option under which s is closed
pub record Own (r : Rule) (s : ℕ) (o : Option) (hs : List ℕ) : Type 0 where
  pub satisfied : T (body_holds r s) → T (some_in hs s)
  pub own : (d : Definite) → Memᴰ d (gl_row s o) → T (all_in d.body s) → Memᴰ d (core r hs s)

-- the option of c in the head `e`, c, `cs`
opt_own : (r : Rule) (e : List ℕ) (c : ℕ) (cs : List ℕ) (s : ℕ) → Closed (gl_row s (opt r e c)) s → Own r s (opt r e c) (e ++ c ∷ cs)
unfolding none_in first_in ifs
opt_own r e c cs s k = record {
  satisfied = λ b. true_yes (some_join e (c ∷ cs) s ∙ go (some_in e s) refl b);
  own = λ d m a.
      let g = gl_in r e c s d m in
      let t : has s c ≡ true = yes_true (has s c) (subst (λ (x : Definite). T (has s x.atom)) g.is (k d m a)) in
      subst (λ (D : List Definite). Memᴰ d D) (sym (at g.neg g.before t)) (Memᴰ.head g.is);
}
  where
    at : some_in r.neg s ≡ false → some_in e s ≡ false → has s c ≡ true → core r (e ++ c ∷ cs) s ≡ rule r c ∷ []
    at n h t = rw (n, first_join e (c ∷ cs) s h, t)

    go : (b : Bool) → some_in e s ≡ b → T (body_holds r s) → (b || some_in (c ∷ cs) s) ≡ true
    go true q b = refl
    go false q b =
        let n = body_none r s b in
        yes_true (some_in (c ∷ cs) s)
        (some_here c cs s (k (rule r c) (subst (λ (D : List Definite). Memᴰ (rule r c) D) (sym (gl_at r e c s n q)) (Memᴰ.head refl)) (body_all r s b)))

options_own : (r : Rule) (e hs : List ℕ) (s : ℕ) (o : Option) → Memᴰ o (options_from r e hs) → Closed (gl_row s o) s → Own r s o (e ++ hs)
unfolding options_from
options_own r e [] s o m k = elim m [ ]
options_own r e (c ∷ cs) s o m k =
    ⊎_elim
    (λ q. subst (λ (x : Option). Own r s x (e ++ c ∷ cs)) (sym q) (opt_own r e c cs s (subst (λ (x : Option). Closed (gl_row s x) s) q k)))
    (λ n. subst (λ (l : List ℕ). Own r s o l) (append_assoc e (c ∷ []) cs) (options_own r (e ++ (c ∷ [])) cs s o n k))
    (Memᴰ.cases_cons m)

-- a row whose option the set keeps to: it is satisfied, and what the option gives is its own
pub row_own : (r : Rule) (s : ℕ) (o : Option) → Memᴰ o (options r) → T (bar_holds s o) → Closed (gl_row s o) s
    → T (satisfies s r) × ((d : Definite) → Memᴰ d (gl_row s o) → T (all_in d.body s) → Memᴰ d (reduct_row r s))
unfolding options options_of satisfies body_holds bar_holds gl_row
row_own r s o m b k = go r.head refl m
  where
    Claim : Type 0
    Claim = T (not (body_holds r s) || some_in r.head s) × ((d : Definite) → Memᴰ d (gl_row s o) → T (all_in d.body s) → Memᴰ d (reduct_row r s))

    bare : o ≡ bars r.pos r.neg → Claim
    bare e = (
      or_l (not (body_holds r s)) (some_in r.head s) (subst (λ (x : Option). T (bar_holds s x)) e b),
      (λ d n a. absurd (none d (subst (λ (x : Option). Memᴰ d (gl_row s x)) e n))),
    )
      where
        none : (d : Definite) → Memᴰ d (gl_row s (bars r.pos r.neg)) → ⊥
        none d n = elim n [ ]

    go : (hs : List ℕ) → r.head ≡ hs → Memᴰ o (options_of r hs) → Claim
    go [] e m = ⊎_elim bare (λ n. elim n [ ]) (Memᴰ.cases_cons m)
    go (c ∷ cs) e m =
        let w = options_own r [] (c ∷ cs) s o m k in (
          imp (body_holds r s) (some_in r.head s) (λ b. subst (λ (l : List ℕ). T (some_in l s)) (sym e) (w.satisfied b)),
          (λ d n a. subst (λ (D : List Definite). Memᴰ d D) (ap (λ (l : List ℕ). core r l s) (sym e) ∙ sym (row_first r s)) (w.own d n a)),
        )
