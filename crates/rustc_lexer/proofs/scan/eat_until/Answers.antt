use Rattle.std.proofs.Common.{sym, ◌∙◌}
use Rattle.memchr.specs.Find.{is_byte}
use Rattle.rustc_lexer.proofs.lemmas.tokens.ByteSearch.{found_at, found_nowhere, up_to, byte_small}
use Rattle.rustc_lexer.proofs.scan.eat_until.Goals as goal

pub returns-in-Some-clause-past : goal.returns-in-Some-clause-past
returns-in-Some-clause-past c =
    c.range_from.ensures.value
    ∙ sym (up_to (is_byte c.args.stop) (λ b. byte_small c.args.stop b c.requires.ascii) _ _ c.utf8.rest
    (found_at (is_byte c.args.stop) _ _ _ c.as_bytes.ensures.value c.in-Some.ensures))

pub returns-in-None-clause-past : goal.returns-in-None-clause-past
returns-in-None-clause-past c =
    found_nowhere (is_byte c.args.stop) (λ b. byte_small c.args.stop b c.requires.ascii) _ _ c.utf8.rest
    c.as_bytes.ensures.value c.in-None.ensures
