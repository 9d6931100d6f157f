-- What it is to be an answer set, part by part: no pair, every rule satisfied, the least set closed under its reduct. Assumes nothing.
use mathlib.Core.Path.{◌≡◌}
use mathlib.Core.Bool.{◌&&◌}
use mathlib.Core.Logic.{◌↔◌}
use mathlib.Core.List.{Memᴰ}
use Prim.Native.Nat.{ℕ}
use lib.Dec.{T, eqb, eqb→eq, eqb_refl}
use Rattle.atoms.proofs.Truth.{and_l, and_r, both}
use Rattle.lpod.specs.Rule.{Rule, Program, rules}
use Rattle.lpod.specs.Satisfied.{satisfies, satisfies_all, no_pair}
use Rattle.lpod.specs.Reduct.{reduct}
use Rattle.lpod.specs.Least.{least}
use Rattle.lpod.specs.Answer.{answer}
use Rattle.lpod.proofs.Lists.{every_at}

pub record Parts (p : Program) (s : ℕ) : Type 0 where
  pub pair : T (no_pair p.pairs s)
  pub satisfied : T (satisfies_all s (rules p))
  pub supported : least (reduct (rules p) s) ≡ s

pub answer_says : (p : Program) (s : ℕ) → T (answer p s) ↔ Parts p s
unfolding answer
answer_says p s = (
  (λ t.
      let u = and_r (no_pair p.pairs s) (satisfies_all s (rules p) && eqb (least (reduct (rules p) s)) s) t in
      record {
        pair = and_l (no_pair p.pairs s) _ t;
        satisfied = and_l (satisfies_all s (rules p)) (eqb (least (reduct (rules p) s)) s) u;
        supported = eqb→eq (least (reduct (rules p) s)) s (and_r (satisfies_all s (rules p)) _ u);
      }),
  (λ a. both (no_pair p.pairs s) _ a.pair (both (satisfies_all s (rules p)) _ a.satisfied (rw a.supported (eqb_refl s)))),
)

-- an answer set satisfies every rule
pub answer_satisfies : (p : Program) (s : ℕ) → T (answer p s) → (r : Rule) → Memᴰ r (rules p) → T (satisfies s r)
unfolding satisfies_all
answer_satisfies p s t r m = every_at (satisfies s) (rules p) ((answer_says p s).0 t).satisfied r m
