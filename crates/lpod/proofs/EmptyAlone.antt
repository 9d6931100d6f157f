-- If the empty set is an answer set it is the only one; so over at most 16 atoms there are at most 65,535 answer sets, and their number
-- fits 16 bits. The empty set satisfies every rule, so every rule has a positive atom; then no reduct has a rule to start from.
-- Assumes nothing.
use mathlib.Core.Path.{◌≡◌, refl, ap, subst}
use mathlib.Core.Bool.{Bool, true, false, ◌&&◌, ◌||◌, not, cond}
use mathlib.Core.List.{List, [], ◌∷◌, Memᴰ}
use Prim.Native.Nat.{ℕ, zero, suc, ◌^◌, ◌≤◌, ◌<◌}
use native.Mathlib.Omega.{arith}
use lib.Pow.{pow_pos, pow_mono}
use lib.Dec.{T}
use lib.ListN.{length}
use Rattle.atoms.specs.Atoms.{has, Inside}
use Rattle.atoms.proofs.Truth.{true_yes, false_no, no_false}
use Rattle.atoms.proofs.Bits.{has_zero, inside_both}
use Rattle.lpod.specs.Lists.{some, keep, numbers}
use Rattle.lpod.specs.Rule.{Rule, Program, rules}
use Rattle.lpod.specs.Satisfied.{all_in, some_in, none_in, body_holds, satisfies}
use Rattle.lpod.specs.Reduct.{reduct_row, reduct}
use Rattle.lpod.specs.Least.{Closed}
use Rattle.lpod.specs.Answer.{answer, answer_sets}
use Rattle.lpod.proofs.Lists.{some_at, in_gather, in_numbers, keep_length}
use Rattle.lpod.proofs.LeastClosed.{least_inside, empty_inside}
use Rattle.lpod.proofs.FirstAtom.{row_body}
use Rattle.lpod.proofs.AnswerParts.{answer_says, answer_satisfies}

none_in_empty : (l : List ℕ) → some_in l 0 ≡ false
unfolding some_in
none_in_empty l = no_false (some (has 0) l) (λ t. let x = some_at (has 0) l t in false_no (has_zero x.0) x.1.1)

-- a rule that the empty set satisfies has a positive atom that is not in it
has_body : (r : Rule) → T (satisfies 0 r) → T (all_in r.pos 0) → ⊥
unfolding satisfies body_holds none_in
has_body r t a =
    go (all_in r.pos 0) (some_in r.neg 0) (some_in r.head 0) (none_in_empty r.neg) (none_in_empty r.head) t a
  where
    go : (a n h : Bool) → n ≡ false → h ≡ false → T (not (a && not n) || h) → T a → ⊥
    go true true h en eh t u = false_no en tt
    go true false true en eh t u = false_no eh tt
    go true false false en eh t u = t
    go false n h en eh t u = u

module _ (p : Program) (e : T (answer p 0)) where
  pub only_empty : (s : ℕ) → T (answer p s) → s ≡ 0
  unfolding reduct
  only_empty s t = inside_both s 0 (subst (λ (x : ℕ). Inside x 0) ((answer_says p s).0 t).supported (least_inside (reduct (rules p) s) 0 none)) (empty_inside s)
    where
      none : Closed (reduct (rules p) s) 0
      none d m k =
          let g = in_gather (λ r. reduct_row r s) (rules p) d m in
          absurd (has_body g.0 (answer_satisfies p 0 e g.0 g.1.0) (subst (λ (b : List ℕ). T (all_in b 0)) (row_body g.0 s d g.1.1) k))

-- ---- so there are not more than 65,535
length_numbers : (i n : ℕ) → length (numbers i n) ≡ n
unfolding numbers
length_numbers i zero = refl
length_numbers i (suc n) = ap suc (length_numbers (suc i) n)

keep_none : (q : ℕ → Bool) (l : List ℕ) → ((x : ℕ) → Memᴰ x l → T (q x) → ⊥) → keep q l ≡ []
unfolding keep
keep_none q [] f = refl
keep_none q (x ∷ l) f = rw (no_false (q x) (f x (Memᴰ.head refl))) (keep_none q l (λ y m. f y (Memᴰ.tail m)))

pub few_sets : (p : Program) → p.atoms ≤ 16 → length (answer_sets p) ≤ 65535
unfolding answer_sets keep numbers
few_sets p h = go (2 ^ p.atoms) (pow_pos p.atoms) (pow_mono h)
  where
    go : (n : ℕ) → 0 < n → n ≤ 2 ^ 16 → length (keep (answer p) (numbers 0 n)) ≤ 65535
    go zero l k = absurd (omega arith)
    go (suc n) l k = on (answer p 0) refl
      where
        on : (b : Bool) → answer p 0 ≡ b → length (cond b (0 ∷ keep (answer p) (numbers 1 n)) (keep (answer p) (numbers 1 n))) ≤ 65535
        on true q =
            let z : keep (answer p) (numbers 1 n) ≡ [] =
            keep_none (answer p) (numbers 1 n) (λ s m t. let i = in_numbers 1 n s m in let w = only_empty p (true_yes q) s t in omega (arith, i.0)) in
            rw z (omega arith)
        on false q = omega (arith, keep_length (answer p) (numbers 1 n), length_numbers 1 n)
