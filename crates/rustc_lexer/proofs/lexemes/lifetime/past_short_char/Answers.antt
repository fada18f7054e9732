use Rattle.std.proofs.Common.{◌+◌, ap, arith, length-drop}
use Rattle.rustc_lexer.proofs.lemmas.tokens.ShortChars.{short_char}
use Rattle.rustc_lexer.proofs.lexemes.lifetime.past_short_char.Goals as goal

pub returns-then-bytes-offset-eq39 : goal.returns-then-bytes-offset-eq39
returns-then-bytes-offset-eq39 c =
    let found = short_char c.args.tail.now _ (1 + c.from-offset.result) c.utf8.tail c.as_bytes-bytes.ensures.value
    c.if-bytes-lt3.false (ap (λ n. 1 + n) c.from-offset.ensures) c.if-bytes-offset-lt128.true
    c.if-bytes-offset-eq39.true in
    rw c.range_from.ensures.value
    (found.character, found.read, omega (arith, length-drop (1 + c.from-offset.result + 1) c.args.tail.now))
