-- Over any family of comparisons each of which is transitive, "strictly more at the first place where the two differ" is transitive and
-- holds of no set and itself. For two steps the earlier of their places decides. Assumes nothing.
use mathlib.Core.Path.{◌≡◌, sym, subst}
use mathlib.Core.Bool.{Bool, ◌&&◌, not}
use mathlib.Core.Logic.{◌↔◌}
use Prim.Native.Nat.{ℕ, ◌-◌, ◌≤◌, ◌<◌}
use native.Mathlib.Omega.{arith}
use native.Mathlib.Decide.{dec_lt}
use lib.Dec.{T, T_not, not_T}
use Rattle.atoms.proofs.Truth.{and_l, and_r, both}
use Rattle.lpod.specs.Lists.{every, numbers}
use Rattle.lpod.specs.Preferred.{equal_at, more_at, first_more}
use Rattle.lpod.proofs.Lists.{every_at, every_made, some_at, some_made, in_numbers, numbers_in}

-- what the test says at its place k
pub record Decides (w : ℕ → ℕ → ℕ → Bool) (k M N : ℕ) : Type 0 where
  pub from : 1 ≤ k
  pub over : T (w k M N)
  pub strict : T (w k N M) → ⊥
  pub up : (j : ℕ) → 1 ≤ j → j < k → T (w j M N)
  pub down : (j : ℕ) → 1 ≤ j → j < k → T (w j N M)

module _ (w : ℕ → ℕ → ℕ → Bool) (n M N : ℕ) where
  decides_at : ℕ → Bool
  decides_at k = more_at w k M N && every (λ j. equal_at w j M N) (numbers 1 (k - 1))

  pub first_says : T (first_more w n M N) ↔ ((k : ℕ) × (k ≤ n) × Decides w k M N)
  unfolding first_more decides_at more_at equal_at
  first_says = (
    (λ t.
        let a = some_at decides_at (numbers 1 n) t in
        let k = a.0 in
        let i = in_numbers 1 n k a.1.0 in
        let m = and_l (more_at w k M N) (every (λ j. equal_at w j M N) (numbers 1 (k - 1))) a.1.1 in
        let e = every_at (λ j. equal_at w j M N) (numbers 1 (k - 1)) (and_r (more_at w k M N) _ a.1.1) in (
          k,
          omega (arith, i.1),
          record {
            from = i.0;
            over = and_l (w k M N) (not (w k N M)) m;
            strict = T_not (w k N M) (and_r (w k M N) (not (w k N M)) m);
            up = λ j l h. and_l (w j M N) (w j N M) (e j (numbers_in 1 (k - 1) j l (omega arith)));
            down = λ j l h. and_r (w j M N) (w j N M) (e j (numbers_in 1 (k - 1) j l (omega arith)));
          },
        )),
    (λ x.
        let k = x.0 in
        let d = x.2 in
        some_made decides_at (numbers 1 n) k (numbers_in 1 n k d.from (omega (arith, x.1)))
        (both (more_at w k M N) _ (both (w k M N) (not (w k N M)) d.over (not_T (w k N M) d.strict))
        (every_made (λ j. equal_at w j M N) (numbers 1 (k - 1))
        (λ j m. let i = in_numbers 1 (k - 1) j m in
        let h : j < k = omega (arith, i.1, d.from) in both (w j M N) (w j N M) (d.up j i.0 h) (d.down j i.0 h))))),
  )

pub first_irreflexive : (w : ℕ → ℕ → ℕ → Bool) (n M : ℕ) → T (first_more w n M M) → ⊥
first_irreflexive w n M t = let x = (first_says w n M M).0 t in x.2.strict x.2.over

module _ (w : ℕ → ℕ → ℕ → Bool) (tr : (k M N O : ℕ) → T (w k M N) → T (w k N O) → T (w k M O)) where
  join : (k l M N O : ℕ) → Decides w k M N → Decides w l N O → (m : ℕ) × ((m ≤ k) × Decides w m M O)
  join k l M N O a b = go (dec_lt k l) (dec_lt l k)
    where
      go : Dec (k < l) → Dec (l < k) → (m : ℕ) × ((m ≤ k) × Decides w m M O)
      go (yes h) d = (
        k,
        (
          omega arith,
          record {
            from = a.from;
            over = tr k M N O a.over (b.up k a.from h);
            strict = λ t. a.strict (tr k N O M (b.up k a.from h) t);
            up = λ j f i. tr j M N O (a.up j f i) (b.up j f (omega arith));
            down = λ j f i. tr j O N M (b.down j f (omega arith)) (a.down j f i);
          },
        ),
      )
      go (no h) (yes i) = (
        l,
        (
          omega arith,
          record {
            from = b.from;
            over = tr l M N O (a.up l b.from i) b.over;
            strict = λ t. b.strict (tr l O M N t (a.up l b.from i));
            up = λ j f x. tr j M N O (a.up j f (omega arith)) (b.up j f x);
            down = λ j f x. tr j O N M (b.down j f x) (a.down j f (omega arith));
          },
        ),
      )
      go (no h) (no i) =
          let e : k ≡ l = omega arith in
          let c : Decides w k N O = subst (λ (x : ℕ). Decides w x N O) (sym e) b in (
            k,
            (
              omega arith,
              record {
                from = a.from;
                over = tr k M N O a.over c.over;
                strict = λ t. a.strict (tr k N O M c.over t);
                up = λ j f x. tr j M N O (a.up j f x) (c.up j f x);
                down = λ j f x. tr j O N M (c.down j f x) (a.down j f x);
              },
            ),
          )

  pub first_transitive : (n M N O : ℕ) → T (first_more w n M N) → T (first_more w n N O) → T (first_more w n M O)
  first_transitive n M N O s t =
      let a = (first_says w n M N).0 s in
      let b = (first_says w n N O).0 t in
      let j = join a.0 b.0 M N O a.2 b.2 in
      (first_says w n M O).1 (j.0, omega (arith, j.1.0, a.1), j.1.1)
