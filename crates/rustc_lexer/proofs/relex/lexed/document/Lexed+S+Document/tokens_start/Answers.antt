use Rattle.std.proofs.{lemmas.Grind.{common_steps}, Common.{rules, arith}}
use Rattle.rustc_lexer.proofs.lemmas.edits.Heads.{is_page, start_inside}
use Rattle.rustc_lexer.proofs.relex.lexed.document.Lexed+S+Document.tokens_start.Goals as goal

pub returns : goal.returns
returns g c = grind (arith, common_steps, rules, is_page, start_inside)
