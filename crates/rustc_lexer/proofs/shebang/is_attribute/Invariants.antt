use Rattle.std.proofs.Common.{◌≡◌, length}
use Rattle.rustc_lexer.specs.{LanguageText.{part, newest}, model.Shebang.{is_attribute}}
use Rattle.rustc_lexer.specs.Tokens.{tokens_of, tokens_left}
use Rattle.rustc_lexer.proofs.shebang.is_attribute.Given as goal

abbrev pub invariant-loop-token : goal.invariant-loop-token
invariant-loop-token l = is_attribute (tokens_left l.token-iterator) ≡ is_attribute (tokens_of (part newest) l.tail)

abbrev pub decreases-loop-token : goal.decreases-loop-token
decreases-loop-token l = length l.token-iterator.rest
