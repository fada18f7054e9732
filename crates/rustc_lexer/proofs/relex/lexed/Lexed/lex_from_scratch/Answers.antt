use Rattle.std.proofs.{Common.{rules, arith}, lemmas.Grind.{common_steps}}
use Rattle.rustc_lexer.proofs.lemmas.edits.Heads.{all_are}
use Rattle.rustc_lexer.proofs.relex.lexed.Lexed.lex_from_scratch.Goals as goal

pub returns-in_err-lexed-clause-from_scratch : goal.returns-in_err-lexed-clause-from_scratch
returns-in_err-lexed-clause-from_scratch g c = grind (arith, common_steps, rules, all_are)

pub returns-clause-from_scratch : goal.returns-clause-from_scratch
returns-clause-from_scratch g c = grind (arith, common_steps, rules, all_are)
