use Rattle.std.proofs.{Common.{arith}, lemmas.Grind.{common_steps}, Math.Seq.{drop-append_seam}}
use Rattle.rustc_lexer.proofs.relex.lexed.parts.lex_body.Goals as goal

pub returns-clause-checkpoints : goal.returns-clause-checkpoints
returns-clause-checkpoints g c = grind (arith, common_steps, drop-append_seam)
