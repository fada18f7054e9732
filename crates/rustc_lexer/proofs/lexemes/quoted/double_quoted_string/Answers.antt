use Rattle.std.proofs.{Common.{arith, rules}, lemmas.Grind.{common_steps}}
use Rattle.rustc_lexer.proofs.lemmas.tokens.QuotedLoop.{stop-read, at_backslash, quoted_lemmas}
use Rattle.rustc_lexer.proofs.lexemes.quoted.double_quoted_string.Goals as goal

pub returns-in_default-clause-read : goal.returns-in_default-clause-read
returns-in_default-clause-read c =
    grind (arith, common_steps, quoted_lemmas, stop-read _ _ c.quoted.invariant.0 c.eat_until_either-stop.ensures.past)

pub returns-then-c-eq34-clause-read : goal.returns-then-c-eq34-clause-read
returns-then-c-eq34-clause-read c =
    grind (arith, common_steps, quoted_lemmas, stop-read _ _ c.quoted.invariant.0 c.eat_until_either-stop.ensures.past)

pub returns-in_default-split_first-clause-read : goal.returns-in_default-split_first-clause-read
returns-in_default-split_first-clause-read c =
    let at = stop-read _ _ c.quoted.invariant.0 c.eat_until_either-stop.ensures.past in
    let slash = at_backslash _ _ c.quoted.invariant.0 c.eat_until_either-stop.ensures.past _ _ c.in-Some.ensures.0
    c.if-c-eq34.false in
    grind (arith, common_steps, quoted_lemmas, at, slash)

pub quoted-preserved : goal.quoted-preserved
quoted-preserved c =
    let at = stop-read _ _ c.quoted.invariant.0 c.eat_until_either-stop.ensures.past in
    let slash = at_backslash _ _ c.quoted.invariant.0 c.eat_until_either-stop.ensures.past _ _ c.in-Some.ensures.0
    c.if-c-eq34.false in
    grind (arith, common_steps, rules, quoted_lemmas, at, slash)
