use Rattle.std.proofs.Common.{refl, ap, ◌∙◌}
use Rattle.rustc_lexer.proofs.lemmas.tokens.Numbers.{digits-is}
use Rattle.rustc_lexer.proofs.lexemes.number.eat_hexadecimal_digits.Goals as goal
use Rattle.std.specs.Char.{is_ascii_hexdigit}
use Rattle.rustc_lexer.specs.model.Number.{is_underscore}

pub returns : goal.returns
returns c = digits-is is_ascii_hexdigit refl _ _ _ _ refl c.utf8.rest
    (c.eat_while-digits.ensures.past is_underscore (λ d b e. e))
    (c.is_ascii_hexdigit-has_digit.ensures.value ∙ ap is_ascii_hexdigit c.first.ensures)
    (c.eat_hexadecimal.ensures.past)
