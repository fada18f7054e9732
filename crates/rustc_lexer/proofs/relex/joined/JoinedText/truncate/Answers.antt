use Rattle.std.proofs.{Common.{arith, length-take}, lemmas.{Grind.{common_steps}, Str.{IsUtf8-string_bytes}}}
use Rattle.rustc_lexer.proofs.relex.joined.JoinedText.truncate.Goals as goal

pub invariant_of-self : goal.invariant_of-self
invariant_of-self c = grind (arith, common_steps, IsUtf8-string_bytes, length-take)
