use Rattle.std.proofs.{lemmas.Grind.{common_steps}, Common.{arith, rules}}
use Rattle.rustc_lexer.proofs.lemmas.edits.Heads.{is_page}
use Rattle.rustc_lexer.proofs.relex.lexed.document.Lexed+S+Document.body_start.Goals as goal

pub returns-clause-number : goal.returns-clause-number
returns-clause-number g c = grind (arith, common_steps, rules, is_page)

pub returns-clause-offset : goal.returns-clause-offset
returns-clause-offset g c = grind (arith, common_steps, rules, is_page)
