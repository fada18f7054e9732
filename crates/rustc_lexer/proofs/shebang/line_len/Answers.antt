use Rattle.std.proofs.Common.{None, Some, arith, rules}
use Rattle.std.proofs.lemmas.{Grind.{common_steps}, Str.Pattern.{find_char}}
use Rattle.rustc_lexer.proofs.lemmas.tokens.Shebang.{no_newline, with_return, without_return}
use Rattle.rustc_lexer.proofs.shebang.line_len.Goals as goal

pub returns-in_default-clause-line : goal.returns-in_default-clause-line
returns-in_default-clause-line c =
    no_newline c.args.text.now (find_char 10 c.args.text.now None c.in_default.ensures.cases (omega arith))

pub returns-then-as_bytes-newline-eq13-clause-line : goal.returns-then-as_bytes-newline-eq13-clause-line
returns-then-as_bytes-newline-eq13-clause-line c =
    let at = find_char 10 c.args.text.now (Some c.in-Some.newline) c.in-Some.ensures.cases (omega arith) in
    with_return c.args.text.now c.in-Some.newline at.0 at.1 at.2 (omega arith)
    (rw c.as_bytes.ensures.value at c.if-as_bytes-newline-eq13.true)

pub returns-else-newline-gt0-clause-line : goal.returns-else-newline-gt0-clause-line
returns-else-newline-gt0-clause-line c =
    let at = find_char 10 c.args.text.now (Some c.in-Some.newline) c.in-Some.ensures.cases (omega arith) in
    without_return c.args.text.now c.in-Some.newline at.0 at.1 at.2 (λ some e. grind (arith, common_steps, rules))
