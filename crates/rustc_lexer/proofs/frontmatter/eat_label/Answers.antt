use Rattle.rustc_lexer.specs.Classes.{is_horizontal_whitespace}
use Rattle.rustc_lexer.specs.{model.Frontmatter.{blanks_len, infostring_len, then_len}, laws.Frontmatter.{past-then}}
use Rattle.rustc_lexer.proofs.frontmatter.eat_label.Goals as goal

pub returns-clause-past : goal.returns-clause-past
returns-clause-past c =
    past-then (then_len blanks_len infostring_len) blanks_len c.args.rest.now c.eat_infostring.result.now _ c.utf8.rest
    (past-then blanks_len infostring_len c.args.rest.now c.eat_while-infostring.result.now _ c.utf8.rest
    (c.eat_while-infostring.ensures.past is_horizontal_whitespace (λ d b e. e)) c.eat_infostring.ensures.past)
    (c.eat_while.ensures.past is_horizontal_whitespace (λ d b e. e))
