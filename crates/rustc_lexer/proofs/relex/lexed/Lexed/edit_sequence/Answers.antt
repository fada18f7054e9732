use Rattle.std.proofs.{Common.{arith, take_all}, lemmas.Grind.{common_steps}}
use Rattle.rustc_lexer.proofs.lemmas.edits.EditSequence.{kept_through}
use Rattle.rustc_lexer.proofs.relex.lexed.Lexed.edit_sequence.Goals as goal

pub returns-in-Ok-clause-kept : goal.returns-in-Ok-clause-kept
returns-in-Ok-clause-kept g c = grind (arith, common_steps, kept_through, take_all)

pub returns-in-Err-clause-stopped : goal.returns-in-Err-clause-stopped
returns-in-Err-clause-stopped g c = grind (arith, common_steps, kept_through)
