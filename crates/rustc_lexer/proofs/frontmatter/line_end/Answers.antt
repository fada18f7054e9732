use Rattle.std.proofs.lemmas.List.{take_rest}
use Rattle.rustc_lexer.specs.laws.Fences.{line_end-some, line_end-none}
use Rattle.rustc_lexer.proofs.frontmatter.line_end.Goals as goal

pub returns-in-Some-clause-end : goal.returns-in-Some-clause-end
returns-in-Some-clause-end c =
    line_end-some c.args.rest.now _ c.args.offset c.in-Some.step (take_rest c.args.rest.now c.args.offset)
    c.in-Some.ensures

pub returns-in-None-clause-end : goal.returns-in-None-clause-end
returns-in-None-clause-end c =
    line_end-none c.args.rest.now _ c.args.offset c.requires (take_rest c.args.rest.now c.args.offset) c.in-None.ensures
