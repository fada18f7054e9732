use Rattle.rustc_lexer.proofs.lemmas.tokens.QuotedLoop.{lone-found}
use Rattle.rustc_lexer.proofs.lexemes.quoted.strip_lone.Goals as goal

pub returns : goal.returns
returns c = lone-found _ _ _ c.utf8.body c.in_ok-first.ensures.0 c.in_ok-first.ensures.1 c.if-first-eq92.false _
    c.strip.ensures
