-- `word::raise` goes from the lowest atom up. Assumes nothing.
use mathlib.Core.Path.{◌∙◌}
use native.Mathlib.Omega.{arith}
use lib.ListN.{length-set}
use Rattle.lanes.proofs.AtomByAtom.{member_small}
use Rattle.lanes.proofs.Bodies.{raise_turn, raise_end}
use Rattle.lanes.proofs.word.raise.Goals as goal

pub bounds-w-a : goal.bounds-w-a
bounds-w-a c = member_small _ _ _ c.in-Some.ensures.steps

pub loop-a-preserved : goal.loop-a-preserved
loop-a-preserved c =
    let h = c.loop-a in
    let e = c.in-Some.ensures.steps in
    let s = member_small _ _ _ e in
    record {
      long = length-set h.w c.in-Some.a _ ∙ h.invariant.long;
      raised = λ a j m. h.invariant.raised a j m ∙ raise_turn _ _ _ e h.w (omega (arith, h.invariant.long)) a j m;
    }

pub returns : goal.returns
returns c =
    (omega (arith, c.loop-a.invariant.long), λ a j l m. raise_end c.args.raised a l _ c.in-None.ensures.steps.0 _ _ (c.loop-a.invariant.raised a j m))
