use Rattle.std.proofs.Common.{ap, Option, ◌∙◌}
use Rattle.std.specs.Option.{unwrap_or}
use Rattle.rustc_lexer.specs.{TokenKind, Unknown}
use Rattle.rustc_lexer.proofs.lemmas.tokens.RunEnds.{symbol_classified}
use Rattle.rustc_lexer.proofs.lexemes.family.symbol_kind.Goals as goal

pub returns-then-code-lt128 : goal.returns-then-code-lt128
returns-then-code-lt128 c = c.unwrap_or.ensures ∙ ap (λ (o : Option TokenKind). unwrap_or o Unknown)
    (symbol_classified c.args.c _ c.if-code-lt128.true c.requires)
