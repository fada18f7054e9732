use Rattle.std.specs.List.{Contains}
use Rattle.rustc_lexer.proofs.relex.checkpoints.Checkpoints.nearest.Given as goal

abbrev pub invariant-loop-bound : goal.invariant-loop-bound
invariant-loop-bound l = Contains l.self.bounds l.nearest
