-- One round of a chosen split program, row by row: the option of each row fires in turn, and the flags' atoms come in at the end. By induction on the
-- rows, and by membership. Assumes nothing.
use mathlib.Core.Path.{◌≡◌, refl, sym, ap, ◌∙◌, subst}
use mathlib.Core.Bool.{Bool, true, ◌&&◌, ◌||◌, and-true, and_comm, or-false, or_assoc}
use mathlib.Core.List.{List, [], ◌∷◌, ◌++◌, map, reverse, reverse-cons}
use Rattle.std.proofs.lemmas.List.{map-append}
use Prim.Native.Nat.{ℕ, ◌^◌, ◌<◌}
use native.Mathlib.Omega.{arith}
use lib.Dec.{T, eqb, eqb→eq, eqb_refl}
use Rattle.std.specs.List.{fold}
use Rattle.atoms.specs.Atoms.{has, insert, union}
use Rattle.atoms.proofs.Truth.{same_yes}
use Rattle.atoms.proofs.Bits.{has_or, has_insert, has_below, same_atoms}
use Rattle.lpod.specs.Lists.{every, some, keep, gather, below}
use Rattle.lpod.specs.Satisfied.{all_in, some_in, none_in}
use Rattle.lpod.specs.Reduct.{Definite}
use Rattle.lpod.specs.Least.{fire}
use Rattle.lpod.specs.Split.{Option, gives, gl_row, gl_reduct, bar_holds}
use Rattle.lpod.proofs.Lists.{every_append, some_at, some_made, keep_in, in_keep, numbers_in, gather_append}
use Rattle.lpod.proofs.Firing.{fire_append}
use Rattle.routes.specs.Choice.{chosen, all_chosen, flag_options, program_of}
use Rattle.routes.specs.declared.split.Chosen.{Chosen}

fire_joined : (C E : List Option) (set s t : ℕ) → fire (gl_reduct (C ++ E) set) s t ≡ fire (gl_reduct E set) s (fire (gl_reduct C set) s t)
unfolding gl_reduct
fire_joined C E set s t = ap (λ (D : List Definite). fire D s t) (gather_append (gl_row set) C E) ∙ fire_append (gather (gl_row set) C) (gather (gl_row set) E) s t

-- ---- the rows
rows_fire : (l : List Chosen) (set s t : ℕ) → fold (λ t c. fire (gl_row set (chosen c)) s t) t l ≡ fire (gl_reduct (map chosen l) set) s t
unfolding gl_reduct gather fire
rows_fire [] set s t = refl
rows_fire (c ∷ l) set s t =
    rows_fire l set s (fire (gl_row set (chosen c)) s t) ∙ sym (fire_append (gl_row set (chosen c)) (gather (gl_row set) (map chosen l)) s t)

pub all_fire : (l : List Chosen) (set s t : ℕ) → fold (λ t c. fire (gl_row set (chosen c)) s t) t (reverse l) ≡ fire (gl_reduct (all_chosen l) set) s t
unfolding all_chosen
all_fire l set s t = rows_fire (reverse l) set s t

-- ---- the flags
-- firing rules without body adds their atoms
given_atoms : (l : List ℕ) (set s t i : ℕ) → has (fire (gl_reduct (map (λ a. gives a [] []) l) set) s t) i ≡ (has t i || some (eqb i) l)
unfolding gl_reduct gather gl_row none_in some_in some all_in every fire
given_atoms [] set s t i = sym (or-false (has t i))
given_atoms (a ∷ l) set s t i = given_atoms l set s (insert t a) i ∙ rw (has_insert t a i) (or_assoc (has t i) (eqb i a) (some (eqb i) l))

-- the atoms of a flag word, listed
listed : (flags i : ℕ) → flags < 2 ^ 16 → some (eqb i) (keep (has flags) (below 16)) ≡ has flags i
listed flags i h = same_yes (some (eqb i) (keep (has flags) (below 16))) (has flags i)
    (λ t. let r = some_at (eqb i) (keep (has flags) (below 16)) t in
    subst (λ (x : ℕ). T (has flags x)) (sym (eqb→eq i r.0 r.1.1)) (in_keep (has flags) (below 16) r.0 r.1.0).1)
    (λ t. let l = has_below 16 flags i h t in
    some_made (eqb i) (keep (has flags) (below 16)) i (keep_in (has flags) (below 16) i (numbers_in 0 16 i (omega arith) (omega arith)) t) (eqb_refl i))

flags_fire : (flags set s t : ℕ) → flags < 2 ^ 16 → fire (gl_reduct (flag_options flags) set) s t ≡ union t flags
unfolding flag_options
flags_fire flags set s t h =
    same_atoms _ (union t flags) (λ i. given_atoms (keep (has flags) (below 16)) set s t i ∙ rw (listed flags i h) (sym (has_or t flags i)))

-- the whole round: the rows' options, then the flags
pub round_flags : (l : List Chosen) (flags set s t : ℕ) → flags < 2 ^ 16
    → union (fire (gl_reduct (all_chosen l) set) s t) flags ≡ fire (gl_reduct (program_of l flags) set) s t
unfolding program_of
round_flags l flags set s t h = sym (fire_joined (all_chosen l) (flag_options flags) set s t ∙ flags_fire flags set s _ h)

-- ---- the rows without head
pub every_turned : {A B : Type 0} (p : B → Bool) (f : A → B) (l : List A) → every p (map f l) ≡ every p (map f (reverse l))
unfolding every
every_turned p f [] = refl
every_turned p f (x ∷ l) =
    and_comm (p (f x)) (every p (map f l)) ∙ ap (λ b. b && p (f x)) (every_turned p f l)
    ∙ sym (rw (reverse-cons, map-append, every_append p (map f (reverse l)) (f x ∷ []), and-true))

bars_flags : (l : List ℕ) (s : ℕ) → every (bar_holds s) (map (λ a. gives a [] []) l) ≡ true
unfolding every bar_holds
bars_flags [] s = refl
bars_flags (a ∷ l) s = bars_flags l s

pub bars_program : (l : List Chosen) (flags s : ℕ) → every (bar_holds s) (program_of l flags) ≡ every (bar_holds s) (all_chosen l)
unfolding program_of flag_options
bars_program l flags s =
    every_append (bar_holds s) (all_chosen l) (map (λ a. gives a [] []) (keep (has flags) (below 16)))
    ∙ rw (bars_flags (keep (has flags) (below 16)) s, and-true)
