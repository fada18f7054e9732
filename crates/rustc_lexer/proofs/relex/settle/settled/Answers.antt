use Rattle.rustc_lexer.specs.laws.Edition.{first_token_grammar}
use Rattle.rustc_lexer.proofs.lemmas.edits.Settled.{local}
use Rattle.rustc_lexer.proofs.relex.settle.settled.Goals as goal

pub returns-clause-local : goal.returns-clause-local
returns-clause-local c = local first_token_grammar
