-- One option of a row, against a set: which atoms bar it, what it adds in a round, and that it is the row's option of that number. A head atom
-- before k is in the set exactly where the first head atom in the set has a place from 1 to k. By induction on the head. Assumes nothing.
use mathlib.Core.Path.{◌≡◌, refl, sym, ap, ◌∙◌}
use mathlib.Core.Bool.{Bool, true, false, ◌&&◌, ◌||◌, not, cond, and-false}
use mathlib.Core.Logic.{◌⊎◌, inl, inr, ⊎_elim}
use mathlib.Core.List.{List, [], ◌∷◌, ◌++◌}
use Prim.Native.Nat.{ℕ, zero, suc, ◌+◌, ◌/◌, ◌≤◌, ◌<◌}
use native.Mathlib.Nat.{le_refl, zero-add}
use native.Mathlib.Omega.{arith}
use lib.Dec.{ltb, leb}
use lib.ListN.{length, get_or, take}
use lib.Seq.{take-nil}
use borrow.Author.Tests.{le-leb, lt-leb, lt-ltb}
use Rattle.atoms.specs.Atoms.{has, insert, with_atom}
use Rattle.atoms.proofs.Bits.{with_insert}
use Rattle.lpod.specs.Lists.{some}
use Rattle.lpod.specs.Rule.{Rule}
use Rattle.lpod.specs.Satisfied.{all_in, some_in, none_in, body_holds}
use Rattle.lpod.specs.Degree.{place}
use Rattle.lpod.specs.Least.{fire}
use Rattle.lpod.specs.Split.{gives, bars, gl_row, bar_holds}
use Rattle.lpod.proofs.Lists.{some_append}
use Rattle.words.specs.Coded.{rule_in, digits}
use Rattle.routes.specs.Choice.{option_in, option_at, chosen}
use Rattle.routes.specs.declared.split.Chosen.{Chosen}

-- ---- the head atoms before k
place_least : (l : List ℕ) (b s : ℕ) → (place b l s ≡ 0) ⊎ (b ≤ place b l s)
unfolding place
place_least [] b s = inl refl
place_least (a ∷ l) b s = go (has s a) (place_least l (suc b) s)
  where
    go : (t : Bool) → (place (suc b) l s ≡ 0) ⊎ (suc b ≤ place (suc b) l s) → (cond t b (place (suc b) l s) ≡ 0) ⊎ (b ≤ cond t b (place (suc b) l s))
    go true r = inr (le_refl b)
    go false r = ⊎_elim (λ e. inl e) (λ h. inr (omega arith)) r

-- a place lies from 1 to k
abbrev pub up_to : ℕ → ℕ → Bool
up_to p k = ltb 0 p && leb p k

before_none : (p b : ℕ) → (p ≡ 0) ⊎ (suc b ≤ p) → up_to p b ≡ false
before_none zero b r = refl
before_none (suc p) b r = ⊎_elim (λ e. absurd (omega arith)) (λ h. rw (lt-leb (suc p) b h) (and-false (ltb 0 (suc p)))) r

some_from : (l : List ℕ) (k b s : ℕ) → some_in (take k l) s ≡ up_to (place (suc b) l s) (b + k)
unfolding some_in some place
some_from [] k b s = rw (take-nil k)
some_from (a ∷ l) zero b s =
    let e : b + 0 ≡ b = omega arith in
    sym (rw e (before_none (place (suc b) (a ∷ l) s) b (place_least (a ∷ l) (suc b) s)))
some_from (a ∷ l) (suc k) b s = go (has s a) (some_from l k (suc b) s)
  where
    go : (t : Bool) → some_in (take k l) s ≡ up_to (place (suc (suc b)) l s) (suc b + k)
        → (t || some_in (take k l) s) ≡ up_to (cond t (suc b) (place (suc (suc b)) l s)) (b + suc k)
    go true e = rw (lt-ltb 0 (suc b) (omega arith), le-leb (suc b) (b + suc k) (omega arith))
    go false e = let z : b + suc k ≡ suc b + k = omega arith in rw z e

pub some_before : (l : List ℕ) (k s : ℕ) → some_in (take k l) s ≡ up_to (place 1 l s) k
some_before l k s = some_from l k 0 s ∙ ap (up_to (place 1 l s)) (zero-add k)

-- ---- an option read off a row's head
module _ (r : Rule) (k : ℕ) where
  headed_in : (hs : List ℕ) → 0 < length hs → option_in r k hs ≡ gives (get_or hs k 0) r.pos (r.neg ++ take k hs)
  unfolding option_in
  headed_in [] h = absurd (omega arith)
  headed_in (c ∷ cs) h = refl

  pub headed : 0 < length r.head → option_at r k ≡ gives (get_or r.head k 0) r.pos (r.neg ++ take k r.head)
  unfolding option_at
  headed h = headed_in r.head h

  headless_in : (hs : List ℕ) → length hs ≡ 0 → option_in r k hs ≡ bars r.pos r.neg
  unfolding option_in
  headless_in [] e = refl
  headless_in (c ∷ cs) e = absurd (omega arith)

  pub headless : length r.head ≡ 0 → option_at r k ≡ bars r.pos r.neg
  unfolding option_at
  headless e = headless_in r.head e

-- a head atom in a word is an atom of 16 bits
digits_small : (n h k : ℕ) → get_or (digits n h) k 0 < 16
unfolding digits
digits_small zero h k = omega arith
digits_small (suc n) h zero = omega arith
digits_small (suc n) h (suc k) = digits_small n (h / 16) k

pub head_small : (row k : ℕ) → get_or (rule_in row).head k 0 < 16
unfolding rule_in
head_small row k = digits_small _ _ k

-- ---- what it adds
-- nothing where it is barred, else its atom where the positive body is in s
pub gives_fire : (a : ℕ) (pos neg : List ℕ) (set s t : ℕ) → fire (gl_row set (gives a pos neg)) s t ≡ cond (some_in neg set) t (cond (all_in pos s) (insert t a) t)
unfolding gl_row none_in fire
gives_fire a pos neg set s t = go (some_in neg set)
  where
    go : (b : Bool) → fire (cond (not b) (record { atom = a; body = pos } ∷ []) []) s t ≡ cond b t (cond (all_in pos s) (insert t a) t)
    go true = refl
    go false = refl

module _ (c : Chosen) (set s t : ℕ) where
  abbrev row : Rule
  row = rule_in c.row

  barred : some_in (row.neg ++ take c.option row.head) set ≡ (some_in row.neg set || up_to (place 1 row.head set) c.option)
  unfolding some_in
  barred = some_append (has set) row.neg (take c.option row.head) ∙ rw (some_before row.head c.option set)

  -- what it adds, whatever the positive body says
  fires : 0 < length row.head → fire (gl_row set (chosen c)) s t
      ≡ cond (some_in row.neg set || up_to (place 1 row.head set) c.option) t (cond (all_in row.pos s) (insert t (get_or row.head c.option 0)) t)
  unfolding chosen
  fires h = rw (headed row c.option h, gives_fire, barred)

  pub fire_headless : length row.head ≡ 0 → t ≡ fire (gl_row set (chosen c)) s t
  unfolding chosen gl_row fire
  fire_headless e = rw (headless row c.option e)

  pub fire_denied : 0 < length row.head → some_in row.neg set ≡ true → t ≡ fire (gl_row set (chosen c)) s t
  fire_denied h e = sym (fires h ∙ rw e)

  pub fire_earlier : 0 < length row.head → some_in row.neg set ≡ false → 0 < place 1 row.head set → place 1 row.head set ≤ c.option → t ≡ fire (gl_row set (chosen c)) s t
  fire_earlier h e u v = sym (fires h ∙ rw (e, lt-ltb 0 (place 1 row.head set) u, le-leb (place 1 row.head set) c.option v))

  pub fire_missed : 0 < length row.head → all_in row.pos s ≡ false → t ≡ fire (gl_row set (chosen c)) s t
  fire_missed h e = sym (fires h ∙ rw e (go (some_in row.neg set || up_to (place 1 row.head set) c.option)))
    where
      go : (b : Bool) → cond b t t ≡ t
      go true = refl
      go false = refl

  pub fire_added : 0 < length row.head → some_in row.neg set ≡ false → (0 < place 1 row.head set → c.option < place 1 row.head set) → all_in row.pos s ≡ true
      → with_atom t (get_or row.head c.option 0) ≡ fire (gl_row set (chosen c)) s t
  fire_added h e u z =
      with_insert t (get_or row.head c.option 0) (head_small c.row c.option) ∙ sym (fires h ∙ rw (e, later (place 1 row.head set) c.option u, z))
    where
      later : (p k : ℕ) → (0 < p → k < p) → up_to p k ≡ false
      later zero k f = refl
      later (suc p) k f = rw (lt-leb (suc p) k (f (omega arith))) (and-false (ltb 0 (suc p)))

-- ---- rows without head
module _ (c : Chosen) (s : ℕ) where
  pub bar_headed : 0 < length (rule_in c.row).head → true ≡ bar_holds s (chosen c)
  unfolding chosen bar_holds
  bar_headed h = rw (headed (rule_in c.row) c.option h)

  pub bar_headless : length (rule_in c.row).head ≡ 0 → not (body_holds (rule_in c.row) s) ≡ bar_holds s (chosen c)
  unfolding chosen bar_holds body_holds
  bar_headless e = rw (headless (rule_in c.row) c.option e)
