use Rattle.rustc_lexer.specs.Classes.{IsText}
use Rattle.rustc_lexer.proofs.lemmas.edits.Heads.{boundary_of, whole_head}
use Rattle.rustc_lexer.proofs.lemmas.heads.ByTokens.{head-front, head-none, head-spaced}
use Rattle.rustc_lexer.proofs.head.DocumentExtent.find_head.Goals as goal

pub returns-in-Some : goal.returns-in-Some
returns-in-Some c =
    let is : IsText c.args.text.now = record { utf8 = c.utf8.text; fits = c.requires.fits } in
    let h =
    whole_head _ is _
    (head-front _ is _ c.tokens_start-start.ensures.start _ c.range_from-rest.ensures.value _ c.in-Some.ensures.0
    c.in-Some.ensures.1).of in
    record { head = h; boundary = boundary_of h }

pub returns-in-Some-frontmatter : goal.returns-in-Some-frontmatter
returns-in-Some-frontmatter c =
    let is : IsText c.args.text.now = record { utf8 = c.utf8.text; fits = c.requires.fits } in
    let h =
    whole_head _ is _
    (head-spaced _ is _ c.tokens_start-start.ensures.start _ c.range_from-rest.ensures.value _ c.in_default.ensures
    c.eat_whitespace-past.ensures.past _ c.in-Some-frontmatter.ensures.0 c.in-Some-frontmatter.ensures.1).of in
    record { head = h; boundary = boundary_of h }

pub returns-in-None-clause-head : goal.returns-in-None-clause-head
returns-in-None-clause-head c =
    let is : IsText c.args.text.now = record { utf8 = c.utf8.text; fits = c.requires.fits } in
    whole_head _ is _
    (head-none _ is _ c.tokens_start-start.ensures.start _ c.range_from-rest.ensures.value _ c.in_default.ensures
    c.eat_whitespace-past.ensures.past c.in-None.ensures).of
