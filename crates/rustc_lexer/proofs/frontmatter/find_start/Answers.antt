use Rattle.std.proofs.lemmas.List.{take_rest}
use Rattle.rustc_lexer.proofs.lemmas.tokens.Search.{start_none, start_some}
use Rattle.rustc_lexer.proofs.frontmatter.find_start.Goals as goal

pub returns-in-Some : goal.returns-in-Some
returns-in-Some c = start_some c.args.first c.args.more.now c.args.rest.now _ _ c.skip_front-start.ensures.left
    (take_rest c.args.rest.now _) c.skip_front-start.ensures.inside _ c.in-Some.ensures

pub returns-in-None : goal.returns-in-None
returns-in-None c = start_none c.args.first c.args.more.now c.args.rest.now _ _ c.skip_front-start.ensures.left
    (take_rest c.args.rest.now _) c.in-None.ensures
