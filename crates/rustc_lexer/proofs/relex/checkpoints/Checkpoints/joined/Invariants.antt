use Rattle.std.proofs.Common.{List}
use Rattle.rustc_lexer.specs.{Token, model.Checkpoints.{AreBounds}}
use Rattle.rustc_lexer.proofs.relex.checkpoints.Checkpoints.joined.Given as goal

abbrev pub invariant-loop-bound : goal.invariant-loop-bound
invariant-loop-bound l = (tokens : List Token) → AreBounds tokens l.self → AreBounds tokens l.more
    → AreBounds tokens l.all
