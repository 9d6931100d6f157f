-- `Members::next` takes the lowest atom out. Assumes nothing.
use Rattle.std.proofs.Common.{rules, arith, ap, length, List, ℕ}
use Rattle.lanes.proofs.AtomByAtom.{first_member, no_member}
use Rattle.lanes.proofs.members.MembersIterator.next.Goals as goal

pub returns-then-self-eq0-clause-steps : goal.returns-then-self-eq0-clause-steps
returns-then-self-eq0-clause-steps c = let e = no_member _ c.if-self-eq0.true in (e, e)

pub returns-clause-steps : goal.returns-clause-steps
returns-clause-steps c = first_member _ (omega arith) c.if-self-eq0.false _ c.lowest-a.ensures

pub returns-clause-goes : goal.returns-clause-goes
returns-clause-goes c =
    let e = ap (λ (l : List ℕ). length l) (first_member c.args.self.now.left (omega arith) c.if-self-eq0.false _ c.lowest-a.ensures) in search rules
