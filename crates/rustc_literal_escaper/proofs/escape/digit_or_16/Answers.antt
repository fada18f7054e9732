use Rattle.rustc_literal_escaper.proofs.DigitLemmas.{digit_table}
use Rattle.rustc_literal_escaper.proofs.escape.digit_or_16.Goals as goal

pub returns-then-code-lt128 : goal.returns-then-code-lt128
returns-then-code-lt128 c = digit_table c.args.c _ c.if-code-lt128.true
