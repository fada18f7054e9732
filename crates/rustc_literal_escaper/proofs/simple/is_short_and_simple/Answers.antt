use Rattle.std.proofs.Common.{arith}
use Rattle.std.proofs.lemmas.Grind.{common_steps}
use Rattle.rustc_literal_escaper.proofs.RunLemmas.{passes-all}
use Rattle.rustc_literal_escaper.proofs.simple.is_short_and_simple.Goals as goal

pub returns : goal.returns
returns c = λ yes. passes-all c.args.text.now
    (grind (arith, common_steps, c.loop-byte.invariant, c.as_bytes-bytes.ensures.value))
