-- A row gives at most one rule of the reduct: the one for the first head atom in the set. The places after it have it before them.
-- By induction on the head. Assumes nothing.
use mathlib.Core.Path.{◌≡◌, refl, sym, ap, ◌∙◌, subst}
use mathlib.Core.Bool.{Bool, true, false, ◌&&◌, ◌||◌, not, cond, or-false}
use mathlib.Core.Logic.{⊎_elim}
use mathlib.Core.List.Memᴰ
use mathlib.Core.List.{List, [], ◌∷◌, ◌++◌, Memᴰ}
use Prim.Native.Nat.{ℕ, ◌≤◌}
use native.Mathlib.Omega.{arith}
use lib.Dec.{T}
use lib.ListN.{length, length-append}
use Rattle.atoms.specs.Atoms.{has}
use Rattle.atoms.proofs.Truth.{true_yes}
use Rattle.lpod.specs.Lists.{some, gather}
use Rattle.lpod.specs.Rule.{Rule}
use Rattle.lpod.specs.Satisfied.{some_in, none_in}
use Rattle.lpod.specs.Reduct.{Definite, reduct_head, reduct_row, reduct}
use Rattle.lpod.proofs.Lists.{some_append}

-- the first of the atoms that is in I, alone in a list; none where none is
unfoldable pub first_in : List ℕ → ℕ → List ℕ
first_in [] I = []
first_in (c ∷ cs) I = cond (has I c) (c ∷ []) (first_in cs I)

-- "atom if body" for each atom
unfoldable pub ifs : List ℕ → List ℕ → List Definite
ifs [] b = []
ifs (c ∷ cs) b = record { atom = c; body = b } ∷ ifs cs b

pub some_more : (e : List ℕ) (c I : ℕ) → some_in (e ++ (c ∷ [])) I ≡ (some_in e I || has I c)
unfolding some_in some
some_more e c I = some_append (has I) e (c ∷ []) ∙ ap (λ (b : Bool). some (has I) e || b) (or-false (has I c))

-- after an atom in I no place counts
later_none : (e cs pos : List ℕ) (I : ℕ) → some_in e I ≡ true → reduct_head e cs pos I ≡ []
unfolding reduct_head none_in
later_none e [] pos I h = refl
later_none e (c ∷ cs) pos I h =
    ap (λ (b : Bool). cond (has I c && not b) (record { atom = c; body = pos } ∷ []) [] ++ reduct_head (e ++ (c ∷ [])) cs pos I) h
    ∙ go (has I c) (later_none (e ++ (c ∷ [])) cs pos I (some_more e c I ∙ rw h))
  where
    go : (b : Bool) → reduct_head (e ++ (c ∷ [])) cs pos I ≡ [] → cond (b && false) (record { atom = c; body = pos } ∷ []) [] ++ reduct_head (e ++ (c ∷ [])) cs pos I ≡ []
    go true h = h
    go false h = h

head_first : (e cs pos : List ℕ) (I : ℕ) → some_in e I ≡ false → reduct_head e cs pos I ≡ ifs (first_in cs I) pos
unfolding reduct_head none_in first_in ifs
head_first e [] pos I h = refl
head_first e (c ∷ cs) pos I h =
    ap (λ (b : Bool). cond (has I c && not b) (record { atom = c; body = pos } ∷ []) [] ++ reduct_head (e ++ (c ∷ [])) cs pos I) h
    ∙ go (has I c) refl (head_first (e ++ (c ∷ [])) cs pos I)
  where
    go : (b : Bool) → has I c ≡ b → (some_in (e ++ (c ∷ [])) I ≡ false → reduct_head (e ++ (c ∷ [])) cs pos I ≡ ifs (first_in cs I) pos)
        → cond (b && true) (record { atom = c; body = pos } ∷ []) [] ++ reduct_head (e ++ (c ∷ [])) cs pos I ≡ ifs (cond b (c ∷ []) (first_in cs I)) pos
    go true p ih = ap (λ (D : List Definite). record { atom = c; body = pos } ∷ D) (later_none (e ++ (c ∷ [])) cs pos I (some_more e c I ∙ rw (h, p)))
    go false p ih = ih (some_more e c I ∙ rw (h, p))

pub row_first : (r : Rule) (I : ℕ) → reduct_row r I ≡ cond (none_in r.neg I) (ifs (first_in r.head I) r.pos) []
unfolding reduct_row some_in some
row_first r I = ap (λ (D : List Definite). cond (none_in r.neg I) D []) (head_first [] r.head r.pos I refl)

-- its atom stands in the head, and is in I
first_of : (cs b : List ℕ) (I : ℕ) (d : Definite) → Memᴰ d (ifs (first_in cs I) b) → Memᴰ d.atom cs × T (has I d.atom)
unfolding first_in ifs
first_of [] b I d m = elim m [ ]
first_of (c ∷ cs) b I d m = go (has I c) refl m (first_of cs b I d)
  where
    go : (t : Bool) → has I c ≡ t → Memᴰ d (ifs (cond t (c ∷ []) (first_in cs I)) b)
        → (Memᴰ d (ifs (first_in cs I) b) → Memᴰ d.atom cs × T (has I d.atom)) → Memᴰ d.atom (c ∷ cs) × T (has I d.atom)
    go true e m ih =
        ⊎_elim (λ p. let q = ap (λ (x : Definite). x.atom) p in (Memᴰ.head q, subst (λ (a : ℕ). T (has I a)) (sym q) (true_yes e))) (λ n. elim n [ ])
        (Memᴰ.cases_cons m)
    go false e m ih = (Memᴰ.tail (ih m).0, (ih m).1)

pub row_of : (r : Rule) (I : ℕ) (d : Definite) → Memᴰ d (reduct_row r I) → Memᴰ d.atom r.head × T (has I d.atom)
row_of r I d m = go (none_in r.neg I) (subst (λ (D : List Definite). Memᴰ d D) (row_first r I) m)
  where
    go : (b : Bool) → Memᴰ d (cond b (ifs (first_in r.head I) r.pos) []) → Memᴰ d.atom r.head × T (has I d.atom)
    go true n = first_of r.head r.pos I d n
    go false n = elim n [ ]

-- its body is the row's positive body
ifs_body : (cs b : List ℕ) (d : Definite) → Memᴰ d (ifs cs b) → d.body ≡ b
unfolding ifs
ifs_body [] b d m = elim m [ ]
ifs_body (c ∷ cs) b d m = ⊎_elim (λ e. ap (λ (x : Definite). x.body) e) (λ n. ifs_body cs b d n) (Memᴰ.cases_cons m)

pub row_body : (r : Rule) (I : ℕ) (d : Definite) → Memᴰ d (reduct_row r I) → d.body ≡ r.pos
row_body r I d m = go (none_in r.neg I) (subst (λ (D : List Definite). Memᴰ d D) (row_first r I) m)
  where
    go : (b : Bool) → Memᴰ d (cond b (ifs (first_in r.head I) r.pos) []) → d.body ≡ r.pos
    go true n = ifs_body (first_in r.head I) r.pos d n
    go false n = elim n [ ]

-- ---- how many
-- a row gives at most one rule, so the reduct has no more rules than the program
one_first : (cs b : List ℕ) (I : ℕ) → length (ifs (first_in cs I) b) ≤ 1
unfolding first_in ifs
one_first [] b I = omega arith
one_first (c ∷ cs) b I = go (has I c) (one_first cs b I)
  where
    go : (t : Bool) → length (ifs (first_in cs I) b) ≤ 1 → length (ifs (cond t (c ∷ []) (first_in cs I)) b) ≤ 1
    go true h = omega arith
    go false h = h

row_one : (r : Rule) (I : ℕ) → length (reduct_row r I) ≤ 1
row_one r I = subst (λ (D : List Definite). length D ≤ 1) (sym (row_first r I)) (go (none_in r.neg I))
  where
    go : (b : Bool) → length (cond b (ifs (first_in r.head I) r.pos) []) ≤ 1
    go true = one_first r.head r.pos I
    go false = omega arith

pub reduct_length : (P : List Rule) (I : ℕ) → length (reduct P I) ≤ length P
unfolding reduct gather
reduct_length [] I = omega arith
reduct_length (r ∷ P) I = omega (arith, length-append (reduct_row r I) (gather (λ x. reduct_row x I) P), row_one r I, reduct_length P I)
