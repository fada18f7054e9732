use Rattle.std.proofs.{lemmas.Grind.{common_steps}, Common.{arith}}
use Rattle.rustc_lexer.proofs.lemmas.edits.Heads.{edition_are}
use Rattle.rustc_lexer.proofs.relex.lexed.in_edition.Lexed+Steps+E.edition.Goals as goal

pub returns-clause-from_scratch : goal.returns-clause-from_scratch
returns-clause-from_scratch g c = grind (arith, common_steps, edition_are)
