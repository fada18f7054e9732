use Rattle.std.proofs.{Common.{arith}, lemmas.Grind.{common_steps}}
use Rattle.rustc_lexer.proofs.lemmas.edits.InCommon.{front_less, shorter, some_front}
use Rattle.rustc_lexer.proofs.relex.diff.common_prefix.Goals as goal

pub overflow_sub-front : goal.overflow_sub-front
overflow_sub-front c = some_front c.utf8.old c.is_char_boundary.ensures.test c.chars-test.true

pub chars-smaller : goal.chars-smaller
chars-smaller c = omega (arith, some_front c.utf8.old c.is_char_boundary.ensures.test c.chars-test.true)

pub chars-preserved : goal.chars-preserved
chars-preserved c = grind (arith, common_steps, front_less, shorter)
