use Rattle.std.proofs.Common.{List, ℕ}
use denote.Bor.{Bor}
use Rattle.rustc_lexer.proofs.lemmas.tokens.Raw.{past_quote-is}
use Rattle.rustc_lexer.proofs.lexemes.raw.past_quote.Goals as goal

pub returns : goal.returns
returns c = past_quote-is (λ (b : Bor (List ℕ)). b.now) _ _ c.strip.result c.utf8.rest c.eat_until.ensures.past
    c.eat_until.ensures.shorter c.strip.ensures
