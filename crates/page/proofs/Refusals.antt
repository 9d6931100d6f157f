-- The laws of refusals, once for every list: what number is given, and when none is. By induction on the list. Assumes nothing.
use mathlib.Core.Path.{◌≡◌, refl, sym, ap, ◌∙◌}
use mathlib.Core.Bool.{Bool, true, false, ◌&&◌, not, cond}
use mathlib.Core.List.{List, [], ◌∷◌, ◌++◌}
use Prim.Native.Nat.{ℕ, zero, suc}
use native.Mathlib.Omega.{arith}
use lib.Dec.{T, ltb, eqb, eqb-suc-zero}
use borrow.Author.Tests.{ltb-true, ne_eqb}
use Rattle.atoms.proofs.Truth.{and_l, and_r, both, yes_true}
use Rattle.lpod.specs.Lists.{every}
use Rattle.page.specs.Refusals.{Refusal, refuse, first_that, none_holds, numbered, FirstOf, page_refusals, flag_refusals, set_refusals, test_refusals}

-- ---- one step, for code that tests one condition after the other
module _ (n : ℕ) (b r : Bool) (rest : List Refusal) (e : r ≡ b) where
  pub first_here : r ≡ true → first_that (refuse n b ∷ rest) ≡ n
  unfolding first_that
  first_here t = rw (← e, t)

  pub first_next : r ≡ false → first_that (refuse n b ∷ rest) ≡ first_that rest
  unfolding first_that
  first_next t = rw (← e, t)

-- ---- none holds exactly where the number is 0
above : (n : ℕ) → T (ltb 0 n) → n ≡ 0 → ⊥
above n t e = omega (arith, ltb-true 0 n (yes_true (ltb 0 n) t))

pub none_given : (l : List Refusal) → T (none_holds l) → first_that l ≡ 0
unfolding none_holds first_that every
none_given [] t = refl
none_given (r ∷ l) t = go r.holds t (none_given l)
  where
    go : (b : Bool) → T (not b && none_holds l) → (T (none_holds l) → first_that l ≡ 0) → cond b r.number (first_that l) ≡ 0
    go true t f = absurd t
    go false t f = f t

pub given_none : (l : List Refusal) → T (numbered l) → first_that l ≡ 0 → T (none_holds l)
unfolding none_holds numbered first_that every
given_none [] p e = tt
given_none (r ∷ l) p e = go r.holds e (given_none l (and_r (ltb 0 r.number) (numbered l) p))
  where
    go : (b : Bool) → cond b r.number (first_that l) ≡ 0 → (first_that l ≡ 0 → T (none_holds l)) → T (not b && none_holds l)
    go true e f = absurd (above r.number (and_l (ltb 0 r.number) (numbered l) p) e)
    go false e f = f e

-- ---- n is given exactly where the list splits at a refusal of number n that holds, and none before it does
pub first_given : (l : List Refusal) (n : ℕ) → FirstOf l n → first_that l ≡ n
unfolding first_that none_holds every
first_given l n f = ap first_that f.splits ∙ after_none f.before n f.after f.none
  where
    pass : (b : Bool) (k m n : ℕ) (c : Bool) → T (not b && c) → (T c → m ≡ n) → cond b k m ≡ n
    pass true k m n c t f = absurd t
    pass false k m n c t f = f t

    after_none : (a : List Refusal) (n : ℕ) (b : List Refusal) → T (none_holds a) → first_that (a ++ (refuse n true ∷ b)) ≡ n
    after_none [] n b t = refl
    after_none (r ∷ a) n b t = pass r.holds r.number (first_that (a ++ (refuse n true ∷ b))) n (none_holds a) t (after_none a n b)

one_more : {r : Refusal} {l : List Refusal} {n : ℕ} → T (not r.holds) → FirstOf l n → FirstOf (r ∷ l) n
unfolding none_holds every
one_more {r} h f = record {
  before = r ∷ f.before;
  after = f.after;
  splits = ap (λ (m : List Refusal). r ∷ m) f.splits;
  none = both (not r.holds) (none_holds f.before) h f.none;
}

pub given_first : (l : List Refusal) (n : ℕ) → (n ≡ 0 → ⊥) → first_that l ≡ n → FirstOf l n
unfolding first_that none_holds every
given_first [] n z e = absurd (z (sym e))
given_first (r ∷ l) n z e = go r.number r.holds e (given_first l n z)
  where
    go : (k : ℕ) (b : Bool) → cond b k (first_that l) ≡ n → (first_that l ≡ n → FirstOf l n) → FirstOf (refuse k b ∷ l) n
    go k true e f = record { before = []; after = l; splits = ap (λ (m : ℕ). refuse m true ∷ l) e; none = tt }
    go k false e f = one_more tt (f e)

-- ---- of two lists, one after the other: the first one's number, and where that is 0 the second one's
pub first_append : (a b : List Refusal) → T (numbered a) → first_that (a ++ b) ≡ cond (eqb (first_that a) 0) (first_that b) (first_that a)
unfolding first_that numbered every
first_append [] b p = refl
first_append (r ∷ a) b p = go r.holds (first_append a b (and_r (ltb 0 r.number) (numbered a) p))
  where
    go : (h : Bool) → first_that (a ++ b) ≡ cond (eqb (first_that a) 0) (first_that b) (first_that a)
        → cond h r.number (first_that (a ++ b)) ≡ cond (eqb (cond h r.number (first_that a)) 0) (first_that b) (cond h r.number (first_that a))
    go true e = rw (ne_eqb r.number 0 (above r.number (and_l (ltb 0 r.number) (numbered a) p)))
    go false e = e

-- ---- the lists of calls: their numbers are all above 0
pub page_numbered : (page : List ℕ) → T (numbered (page_refusals page))
unfolding numbered every page_refusals
page_numbered page = tt

pub flag_numbered : (page : List ℕ) (flags : ℕ) → T (numbered (flag_refusals page flags))
unfolding numbered every page_refusals flag_refusals
flag_numbered page flags = tt

pub test_numbered : (page : List ℕ) (flags set : ℕ) → T (numbered (test_refusals page flags set))
unfolding numbered every page_refusals flag_refusals test_refusals set_refusals
test_numbered page flags set = tt

-- ---- where the number of two lists, one after the other, is 0, that of each is
pub given_append : (a b : List Refusal) → T (numbered a) → first_that (a ++ b) ≡ 0 → (first_that a ≡ 0) × (first_that b ≡ 0)
given_append a b p e = go (first_that a) (first_that b) (sym (first_append a b p) ∙ e)
  where
    go : (x y : ℕ) → cond (eqb x 0) y x ≡ 0 → (x ≡ 0) × (y ≡ 0)
    go zero y e = (refl, e)
    go (suc x) y e = absurd (omega (arith, rw (eqb-suc-zero x) at e))

-- ---- no refusal of a list whose number is 0 holds
abbrev pub AllDenied : List Refusal → Type 0
AllDenied [] = Unit {0}
AllDenied (r ∷ l) = (r.holds ≡ false) × AllDenied l

none_denied : (l : List Refusal) → T (none_holds l) → AllDenied l
unfolding none_holds every
none_denied [] t = tt
none_denied (r ∷ l) t = (go r.holds (and_l (not r.holds) (none_holds l) t), none_denied l (and_r (not r.holds) (none_holds l) t))
  where
    go : (b : Bool) → T (not b) → b ≡ false
    go true t = absurd t
    go false t = refl

pub given_denied : (l : List Refusal) → T (numbered l) → first_that l ≡ 0 → AllDenied l
given_denied l p e = none_denied l (given_none l p e)
