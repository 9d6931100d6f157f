-- The inclusion preference is what 000 Definition 6 says, with no bound on the degree; it is transitive and prefers no set to itself.
-- A degree at which two collections differ is some row's degree, so it is no higher than the longest head. Assumes nothing.
use mathlib.Core.Path.{◌≡◌, subst}
use mathlib.Core.Bool.{Bool, true, false, ◌||◌, not}
use mathlib.Core.Logic.{◌↔◌}
use mathlib.Core.List.{List, Memᴰ}
use Prim.Native.Nat.{ℕ, ◌≤◌, ◌<◌}
use native.Mathlib.Omega.{arith}
use lib.Dec.{T, eqb, eqb→eq, eqb_refl}
use Rattle.atoms.proofs.Truth.{imp, imp_at}
use Rattle.lpod.specs.Rule.{Rule, Program, rules}
use Rattle.lpod.specs.Degree.{degree}
use Rattle.lpod.specs.Preferred.{within, longest, preferred}
use Rattle.lpod.proofs.Lists.{every_at, every_made, every_fails}
use Rattle.lpod.proofs.DegreesInRange.{degree_longest}
use Rattle.lpod.proofs.FirstMore.{first_says, first_irreflexive, first_transitive}

-- the rules of degree k in N are among those of degree k in M
abbrev pub Within : List Rule → ℕ → ℕ → ℕ → Type 0
Within P k M N = (r : Rule) → Memᴰ r P → degree N r ≡ k → degree M r ≡ k

pub eq_yes : (a k : ℕ) → a ≡ k → T (eqb a k)
eq_yes a k e = subst (λ (x : ℕ). T (eqb a x)) e (eqb_refl a)

module _ (P : List Rule) (k M N : ℕ) where
  at : Rule → Bool
  at r = not (eqb (degree N r) k) || eqb (degree M r) k

  within_says : T (within P k M N) ↔ Within P k M N
  unfolding within at
  within_says = (
    (λ t r m e. eqb→eq (degree M r) k (imp_at (eqb (degree N r) k) (eqb (degree M r) k) (every_at at P t r m) (eq_yes (degree N r) k e))),
    (λ f. every_made at P (λ r m. imp (eqb (degree N r) k) (eqb (degree M r) k) (λ t. eq_yes (degree M r) k (f r m (eqb→eq (degree N r) k t))))),
  )

  -- where it fails, some rule has degree k in N
  within_fails : (T (within P k M N) → ⊥) → (r : Rule) × (Memᴰ r P × (degree N r ≡ k))
  unfolding within at
  within_fails n =
      let f = every_fails at P n in
      (f.0, (f.1.0, eqb→eq (degree N f.0) k (holds (eqb (degree N f.0) k) (eqb (degree M f.0) k) f.1.1)))
    where
      holds : (a b : Bool) → (T (not a || b) → ⊥) → T a
      holds true b f = tt
      holds false b f = f tt

within_transitive : (P : List Rule) (k M N O : ℕ) → T (within P k M N) → T (within P k N O) → T (within P k M O)
within_transitive P k M N O s t = (within_says P k M O).1 (λ r m e. (within_says P k M N).0 s r m ((within_says P k N O).0 t r m e))

-- M is preferred to N, in the paper's words
pub record Preferred (p : Program) (M N : ℕ) : Type 0 where
  pub k : ℕ
  pub from : 1 ≤ k
  pub part : Within (rules p) k M N
  pub strict : Within (rules p) k N M → ⊥
  pub equal : (j : ℕ) → 1 ≤ j → j < k → Within (rules p) j M N × Within (rules p) j N M

pub preferred_says : (p : Program) (M N : ℕ) → T (preferred p M N) ↔ Preferred p M N
unfolding preferred
preferred_says p M N = (
  (λ t.
      let x = (first_says (within (rules p)) (longest (rules p)) M N).0 t in
      let d = x.2 in
      record {
        k = x.0;
        from = d.from;
        part = (within_says (rules p) x.0 M N).0 d.over;
        strict = λ f. d.strict ((within_says (rules p) x.0 N M).1 f);
        equal = λ j l h. ((within_says (rules p) j M N).0 (d.up j l h), (within_says (rules p) j N M).0 (d.down j l h));
      }),
  (λ x.
      let n : T (within (rules p) x.k N M) → ⊥ = λ t. x.strict ((within_says (rules p) x.k N M).0 t) in
      let f = within_fails (rules p) x.k N M n in
      let l = degree_longest (rules p) M f.0 f.1.0 in
      (first_says (within (rules p)) (longest (rules p)) M N).1 (
        x.k,
        omega (arith, f.1.1),
        record {
          from = x.from;
          over = (within_says (rules p) x.k M N).1 x.part;
          strict = n;
          up = λ j l h. (within_says (rules p) j M N).1 (x.equal j l h).0;
          down = λ j l h. (within_says (rules p) j N M).1 (x.equal j l h).1;
        },
      )),
)

pub preferred_irreflexive : (p : Program) (M : ℕ) → T (preferred p M M) → ⊥
unfolding preferred
preferred_irreflexive p M = first_irreflexive (within (rules p)) (longest (rules p)) M

pub preferred_transitive : (p : Program) (M N O : ℕ) → T (preferred p M N) → T (preferred p N O) → T (preferred p M O)
unfolding preferred
preferred_transitive p M N O = first_transitive (within (rules p)) (within_transitive (rules p)) (longest (rules p)) M N O
