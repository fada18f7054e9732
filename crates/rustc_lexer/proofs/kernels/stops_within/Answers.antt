use Rattle.std.proofs.{Common.{arith}, lemmas.{Grind.{common_steps}, List.{take_rest}}}
use Rattle.rustc_lexer.proofs.lemmas.tokens.Stops.{looked_last, looked_on}
use Rattle.rustc_lexer.proofs.kernels.stops_within.Goals as goal

pub looks-init : goal.looks-init
looks-init g c = grind (arith, common_steps, looked_last, take_rest)

pub looks-preserved : goal.looks-preserved
looks-preserved g c = grind (arith, common_steps, looked_on, take_rest)
