-- What the count of rounds promises of every page, flag word and set: no more rounds than the set has atoms, nor than there are rows and raised
-- atoms; accepted, the rounds that add something are just so many, and come to the least closed set. Assumes nothing.
use Rattle.std.specs.Prelude.{Result}
use mathlib.Core.Path.{◌≡◌, sym, ap, ◌∙◌, subst}
use mathlib.Core.Bool.{Bool, true, false, cond}
use mathlib.Core.Logic.{◌↔◌}
use mathlib.Core.List.{List}
use Prim.Native.Nat.{ℕ, ◌+◌, ◌≤◌, ◌<◌}
use native.Mathlib.Omega.{arith}
use lib.Dec.{T, eqb}
use Rattle.atoms.specs.Atoms.{how_many}
use Rattle.lpod.specs.Rule.{rules}
use Rattle.lpod.specs.Reduct.{Definite, reduct}
use Rattle.lpod.specs.Least.{rounds, least}
use Rattle.lpod.specs.Chain.{adds, chain, chain_to}
use Rattle.lpod.proofs.Chains.{chain_ends, adds_exactly, ends_least, chain_set, chain_rows}
use Rattle.page.specs.Fields.{row_count, literals_at}
use Rattle.page.specs.Program.{rows_of, program}
use Rattle.page.specs.Refusals.{test_no}
use Rattle.page.specs.Answers.{answered, by_number}
use Rattle.page.specs.declared.refusal.Refusal.{Refusal}
use Rattle.words.proofs.Lent.{page_rows_many}
use Rattle.routes.specs.Rounds.{Counted, rounds_to, RoundsSays}

-- what bounds the chain bounds the answer, which is 0 where the call is refused
at_most_lem : (n c most : ℕ) → c ≤ most → (by_number 0 n c).value ≤ most
unfolding by_number
at_most_lem n c most l = go (eqb n 0)
  where
    go : (b : Bool) → cond b c 0 ≤ most
    go true = l
    go false = omega arith

module _ (page : List ℕ) (flags set : ℕ) (r : Result ℕ Refusal) (says : RoundsSays page flags set r) where
  few : (most : ℕ) → chain_to (program page flags) set ≤ most → (answered 0 r).value ≤ most
  unfolding rounds_to
  few most l = subst (λ (x : Counted). x.value ≤ most) (sym says) (at_most_lem (test_no page flags set) (chain_to (program page flags) set) most l)

  pub rounds_atoms : (answered 0 r).value ≤ how_many set
  rounds_atoms = few (how_many set) (chain_set (program page flags) set)

  pub rounds_rows : (answered 0 r).value ≤ row_count page + how_many flags
  unfolding program rows_of
  rounds_rows = few (row_count page + how_many flags) (omega (arith, chain_rows (program page flags) set, page_rows_many page 0 (literals_at page) (row_count page)))

  -- the rules by which the rounds go
  abbrev given : List Definite
  given = reduct (rules (program page flags)) set

  module _ (z : (answered 0 r).no ≡ 0) where
    is_chain : chain given ≡ (answered 0 r).value
    unfolding rounds_to by_number chain_to
    is_chain =
        let e : test_no page flags set ≡ 0 = sym (ap (λ (x : Counted). x.no) says) ∙ z in
        sym (ap (λ (x : Counted). x.value) says ∙ rw e)

    pub rounds_exactly : (n : ℕ) → T (adds given n) ↔ (n < (answered 0 r).value)
    rounds_exactly n = subst (λ (c : ℕ). T (adds given n) ↔ (n < c)) is_chain (adds_exactly given n)

    pub rounds_reach : rounds (answered 0 r).value given 0 ≡ least given
    rounds_reach = subst (λ (c : ℕ). rounds c given 0 ≡ least given) is_chain (ends_least given (chain given) (chain_ends given).next)
