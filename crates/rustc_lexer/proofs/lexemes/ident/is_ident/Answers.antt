use Rattle.std.proofs.{Common.{arith}, lemmas.{Grind.{common_steps}}}
use Rattle.rustc_lexer.specs.Classes.{is_id_continue}
use Rattle.rustc_lexer.proofs.lemmas.tokens.Identifiers.{all_past}
use Rattle.rustc_lexer.proofs.lexemes.ident.is_ident.Goals as goal

pub returns-then-is_id_start : goal.returns-then-is_id_start
returns-then-is_id_start c =
    let all = all_past is_id_continue c.in-Some.tail.now _ c.eat_continue.ensures.past in
    grind (arith, common_steps, c.in-Some.ensures.0, c.if-is_id_start.ensures, all)
