-- A list that is made from its start, one entry after the other: the entries so far, with those to come, are all of them. Assumes nothing.
use mathlib.Core.Path.{◌≡◌, sym, ap, ◌∙◌}
use mathlib.Core.List.{List, [], ◌∷◌, ◌++◌, append-nil, append_assoc}
use Prim.Native.Nat.{ℕ, ◌+◌, ◌<◌}
use native.Mathlib.Numerals.{add-one}
use native.Mathlib.Omega.{arith}
use lib.ListN.{length, set, take, drop}
use lib.Seq.{take-suc-set, append_snoc, drop-set-lt, drop-drop}

pub pushed : (words more all l rest : List ℕ) (w : ℕ) → more ≡ words ++ w ∷ [] → words ++ l ≡ all → l ≡ w ∷ rest → more ++ rest ≡ all
pushed words more all l rest w em e el = rw (em, append_assoc) (ap (λ (r : List ℕ). words ++ r) (sym el) ∙ e)

pub all_pushed : (words all l : List ℕ) → words ++ l ≡ all → l ≡ [] → words ≡ all
all_pushed words all l e el = rw (← append-nil words) (ap (λ (r : List ℕ). words ++ r) (sym el) ∙ e)

-- ---- the same in an array, from its start on
pub filled_more : (words all l rest : List ℕ) (n w : ℕ) → n < length words → take n words ++ l ≡ all → l ≡ w ∷ rest
    → take (n + 1) (set words n w) ++ rest ≡ all
filled_more words all l rest n w h e el =
    rw (add-one n, take-suc-set words n w h, append_snoc) (ap (λ (r : List ℕ). take n words ++ r) (sym el) ∙ e)

pub filled_all : (words all l : List ℕ) (n m : ℕ) → take n words ++ l ≡ all → l ≡ [] → m ≡ n → take m words ≡ all
filled_all words all l n m e el em = rw em (rw (← append-nil (take n words)) (ap (λ (r : List ℕ). take n words ++ r) (sym el) ∙ e))

-- and what is not stored yet is as it was
pub kept_more : (words before : List ℕ) (n w : ℕ) → drop n words ≡ drop n before → drop (n + 1) (set words n w) ≡ drop (n + 1) before
kept_more words before n w e =
    drop-set-lt (n + 1) words n w (omega arith) ∙ rw (← drop-drop 1 n words, e, drop-drop 1 n before)

pub kept_rest : (words before : List ℕ) (n m : ℕ) → drop n words ≡ drop n before → m ≡ n → drop m words ≡ drop m before
kept_rest words before n m e em = rw em e
