use Rattle.std.proofs.Common.{sym, is_some, ap, ◌∙◌}
use Rattle.rustc_lexer.proofs.lemmas.edits.FrontAndBack.{two_chars}
use Rattle.rustc_lexer.proofs.relex.boundary.has_two_chars_between.Goals as goal

pub returns-in-Some : goal.returns-in-Some
returns-in-Some c =
    c.is_some.ensures ∙ (ap is_some c.next-in-Some.ensures.steps.2 ∙
    two_chars c.args.text.now c.args.from c.args.to c.range.result.now c.next.new.self.rest.now c.in-Some.field-0
    c.range.ensures.value c.range.utf8 (sym c.chars-chars.ensures.rest ∙ c.in-Some.ensures.steps.0))
