use Rattle.std.proofs.lemmas.Str.{IsCharBoundary-start}
use Rattle.rustc_lexer.proofs.lemmas.edits.Heads.{part_head}
use Rattle.rustc_lexer.proofs.head.FragmentExtent.find_head.Goals as goal

pub returns-clause-head : goal.returns-clause-head
returns-clause-head c = part_head c.args._text.now (record { utf8 = c.utf8._text; fits = c.requires.fits })

pub returns-clause-boundary : goal.returns-clause-boundary
returns-clause-boundary c = IsCharBoundary-start c.args._text.now c.utf8._text
