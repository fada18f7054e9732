use Rattle.std.proofs.{Common.{arith}, lemmas.Grind.{common_steps}}
use Rattle.rustc_lexer.proofs.lemmas.edits.Heads.{edition_are}
use Rattle.rustc_lexer.proofs.relex.lexed.in_edition.Lexed+Steps+E.set_edition.Goals as goal

pub returns-clause-from_scratch : goal.returns-clause-from_scratch
returns-clause-from_scratch g c = grind (arith, common_steps, edition_are)
