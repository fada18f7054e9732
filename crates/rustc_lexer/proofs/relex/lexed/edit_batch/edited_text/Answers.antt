use Rattle.std.proofs.{Common.{arith}, lemmas.{Grind.{common_steps}, Str.{IsCharBoundary-start}}}
use Rattle.rustc_lexer.proofs.relex.lexed.edit_batch.edited_text.Goals as goal

pub loop-edit-init : goal.loop-edit-init
loop-edit-init c = grind (arith, common_steps, IsCharBoundary-start)
