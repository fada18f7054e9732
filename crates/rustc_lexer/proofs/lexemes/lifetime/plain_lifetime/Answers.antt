use Rattle.std.proofs.{lemmas.Grind.{common_steps}, Common.{arith, rules}}
use Rattle.rustc_lexer.proofs.lemmas.tokens.Lifetimes.{plain_lifetime-quoted, plain_lifetime-unquoted_name}
use Rattle.rustc_lexer.proofs.lexemes.lifetime.plain_lifetime.Goals as goal

pub returns-in-Some : goal.returns-in-Some
returns-in-Some c = search (rules, plain_lifetime-quoted)

pub returns : goal.returns
returns c = grind (arith, common_steps, rules, plain_lifetime-unquoted_name)
