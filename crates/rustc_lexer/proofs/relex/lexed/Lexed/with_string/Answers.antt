use Rattle.std.proofs.{Common.{rules, arith}, lemmas.Grind.{common_steps}}
use Rattle.rustc_lexer.proofs.lemmas.edits.Heads.{all_are, heads_are}
use Rattle.rustc_lexer.proofs.relex.lexed.Lexed.with_string.Goals as goal

pub returns-clause-from_scratch : goal.returns-clause-from_scratch
returns-clause-from_scratch g c = grind (arith, common_steps, rules, all_are)

pub returns-clause-count : goal.returns-clause-count
returns-clause-count g c = grind (arith, common_steps, rules, heads_are)
