-- The content that a call of the writer is given, from the struct of the code.
use Rattle.writer.specs.Content.{Content, content}
use Rattle.writer.specs.declared.Content as code

abbrev pub given : code.Content → Content
given c = content c.atoms c.rows.now c.literals.now c.pairs.now
