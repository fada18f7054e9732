use Rattle.rustc_lexer.proofs.lemmas.tokens.RawRead.{past_opening}
use Rattle.rustc_lexer.proofs.lexemes.raw.raw_double_quoted_string.Goals as goal

pub returns-in-Some : goal.returns-in-Some
returns-in-Some c =
    past_opening _ _ _ _ c.utf8.rest c.eat_hashes-from_starter.ensures.past c.in-Some.ensures.0 c.in-Some.ensures.1 _ _
    c.raw_text.ensures
