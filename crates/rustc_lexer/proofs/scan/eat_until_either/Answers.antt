use Rattle.std.proofs.Common.{sym, ◌∙◌}
use Rattle.memchr.specs.Find.{is_byte2}
use Rattle.rustc_lexer.proofs.lemmas.tokens.ByteSearch.{found_at, found_nowhere, up_to, byte2_small}
use Rattle.rustc_lexer.proofs.scan.eat_until_either.Goals as goal

pub returns-in-Some-clause-past : goal.returns-in-Some-clause-past
returns-in-Some-clause-past c =
    c.range_from.ensures.value
    ∙ sym (up_to (is_byte2 c.args.one c.args.two)
    (λ b. byte2_small c.args.one c.args.two b c.requires.one c.requires.two) _ _ c.utf8.rest
    (found_at (is_byte2 c.args.one c.args.two) _ _ _ c.as_bytes.ensures.value c.in-Some.ensures))

pub returns-in-None-clause-past : goal.returns-in-None-clause-past
returns-in-None-clause-past c =
    found_nowhere (is_byte2 c.args.one c.args.two)
    (λ b. byte2_small c.args.one c.args.two b c.requires.one c.requires.two) _ _ c.utf8.rest c.as_bytes.ensures.value
    c.in-None.ensures
