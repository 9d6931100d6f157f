-- `rank::firsts` goes through the rows. What is kept: the word has every row before the one in hand in which some lane has degree 1.
-- Assumes nothing.
use mathlib.Core.Path.{ap, ◌∙◌, subst}
use Prim.Native.Nat.{ℕ}
use native.Mathlib.Omega.{arith}
use lib.Dec.{T}
use Rattle.atoms.specs.Atoms.{has}
use Rattle.atoms.proofs.Bits.{has_zero}
use Rattle.lanes.proofs.FirstRows.{firsts_on, firsts_off}
use Rattle.lanes.proofs.rank.firsts.Goals as goal
use Rattle.lanes.proofs.rank.firsts.Goals.{then-exact-among-ne0, else-exact-among-ne0}

pub returns-then-among-eq0 : goal.returns-then-among-eq0
returns-then-among-eq0 c = λ n j l m t e. absurd (subst T (ap (λ (x : ℕ). has x j) c.if-among-eq0.true ∙ has_zero j) t)

pub loop-n-preserved : goal.loop-n-preserved
loop-n-preserved c =
    let x = c.exact in
    let h = c.loop-n in
    let a = c.args in
    let r = a.rules.rows.now in
    elim c.if-exact-among-ne0.branch [
      | then-exact-among-ne0 w ↦ rw w.x-is (firsts_on r a.b a.among h.n h.x h.invariant (omega (arith, c.requires.1)))
      | else-exact-among-ne0 w ↦ rw w.x-is (firsts_off r a.b a.among h.n h.x h.invariant x.result x.ensures w.if-exact-among-ne0.false)
    ]
