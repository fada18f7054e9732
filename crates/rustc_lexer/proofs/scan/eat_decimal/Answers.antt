use Rattle.std.specs.Char.{is_ascii_digit}
use Rattle.rustc_lexer.specs.model.Number.{or_underscore}
use Rattle.rustc_lexer.proofs.lemmas.tokens.{AsciiRuns.{may_cut_small, past_small}, Numbers.{digit-small}}
use Rattle.rustc_lexer.proofs.scan.eat_decimal.Goals as goal

pub range_from-requires : goal.range_from-requires
range_from-requires c =
    λ some. may_cut_small (or_underscore is_ascii_digit) digit-small _ _ _ c.utf8.rest c.as_bytes.ensures.value
    (c.front_end.ensures.value (or_underscore is_ascii_digit) (λ b passes e. e))

pub returns-clause-past : goal.returns-clause-past
returns-clause-past c = past_small (or_underscore is_ascii_digit) digit-small _ _ _ c.utf8.rest c.as_bytes.ensures.value
    (c.front_end.ensures.value (or_underscore is_ascii_digit) (λ b passes e. e)) _ c.range_from.ensures.value
