use Rattle.std.proofs.Common.{◌∷◌}
use Rattle.rustc_lexer.proofs.lemmas.tokens.Pairs.{apart_first}
use Rattle.rustc_lexer.proofs.frontmatter.skip_front.Goals as goal

pub returns-clause-left : goal.returns-clause-left
returns-clause-left c =
    apart_first (c.args.first ∷ c.args.more.now) c.args.rest.now _ c.skip_apart.ensures.inside
    c.skip_apart.ensures.apart
