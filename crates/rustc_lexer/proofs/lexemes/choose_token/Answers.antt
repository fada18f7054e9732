use Rattle.std.proofs.{Common.{arith}, lemmas.Str.{IsCharBoundary-start}}
use Rattle.rustc_lexer.proofs.lemmas.tokens.Lexemes.{left-le, made, token-at_end}
use Rattle.rustc_lexer.proofs.lexemes.choose_token.Goals as goal

pub past_first-kind-requires-clause-no_hash : goal.past_first-kind-requires-clause-no_hash
past_first-kind-requires-clause-no_hash c = c.requires.no_hash _ _ c.in-Some.ensures.0

pub overflow_sub-result : goal.overflow_sub-result
overflow_sub-result c = left-le _ _ _ _ _ c.utf8.text c.in-Some.ensures.0 c.in-Some.ensures.1 c.past_first-kind.ensures

pub returns : goal.returns
returns c = made _ _ _ _ _ c.utf8.text c.in-Some.ensures.0 c.in-Some.ensures.1 c.past_first-kind.ensures

pub returns-in_default : goal.returns-in_default
returns-in_default c =
    record {
      token = token-at_end _ c.in_default.ensures;
      inside = omega arith;
      boundary = IsCharBoundary-start _ c.utf8.text;
      suffix = omega arith;
    }
