use Rattle.std.proofs.{Common.{arith, eqb-true, eq-eqb}, lemmas.Grind.{common_steps}}
use Rattle.rustc_lexer.proofs.lemmas.edits.ByLengths.{as_many}
use Rattle.rustc_lexer.proofs.relex.boundary.follow.Goals as goal

pub returns-clause-followed : goal.returns-clause-followed
returns-clause-followed g c = grind (arith, common_steps, as_many, eqb-true, eq-eqb)

pub returns-then-offset-end-clause-followed : goal.returns-then-offset-end-clause-followed
returns-then-offset-end-clause-followed g c = grind (arith, common_steps, as_many)
