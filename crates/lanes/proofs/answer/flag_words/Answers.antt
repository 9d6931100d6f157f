-- `answer::flag_words`: the words of the flags raised over none. Assumes nothing.
use native.Mathlib.Omega.{arith}
use Rattle.lanes.proofs.Words.{same_made}
use Rattle.lanes.proofs.answer.flag_words.Goals as goal

pub returns : goal.returns
returns c = same_made _ c.args.flags c.ranges.flags.fits (omega arith) c.raise.ensures.1
