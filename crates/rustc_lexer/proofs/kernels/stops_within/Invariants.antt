use Rattle.std.proofs.Common.{◌-◌}
use Rattle.rustc_lexer.proofs.lemmas.tokens.Stops.{Looked}
use Rattle.rustc_lexer.proofs.kernels.stops_within.Given as goal

abbrev pub invariant-looks : goal.invariant-looks
invariant-looks g l = Looked g.C.ByteClass.passes l.bytes l.len l.at l.last l.stops

abbrev pub decreases-looks : goal.decreases-looks
decreases-looks g l = l.last - l.at
