use Rattle.std.proofs.Common.{rules}
use Rattle.rustc_lexer.proofs.lemmas.tokens.RunEnds.{are_ends}
use Rattle.rustc_lexer.proofs.kernels.ends_within.Goals as goal

pub returns : goal.returns
returns c = search (rules, are_ends)
