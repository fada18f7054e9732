use Rattle.rustc_literal_escaper.proofs.DigitLemmas.{short_table}
use Rattle.rustc_literal_escaper.proofs.escape.short.Goals as goal

pub returns-then-code-lt128 : goal.returns-then-code-lt128
returns-then-code-lt128 c = short_table c.args.c _ c.if-code-lt128.true
