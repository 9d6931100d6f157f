-- `word::to_block`: the words of the upper atoms are raised. Assumes nothing.
use mathlib.Core.Path.{◌∙◌}
use Rattle.lanes.proofs.Words.{block_made}
use Rattle.lanes.proofs.word.to_block.Goals as goal

pub returns : goal.returns
returns c =
    let r = c.raise.ensures in
    block_made _ c.args.w.now c.args.b c.requires.0 c.requires.1 (r.0 ∙ c.requires.1.0) r.1
