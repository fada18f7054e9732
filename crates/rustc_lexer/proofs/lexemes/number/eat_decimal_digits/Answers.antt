use Rattle.std.proofs.Common.{rules}
use Rattle.rustc_lexer.proofs.lemmas.tokens.Numbers.{digits-is}
use Rattle.rustc_lexer.proofs.lexemes.number.eat_decimal_digits.Goals as goal

pub returns : goal.returns
returns c = search (rules, digits-is)
