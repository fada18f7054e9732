use Rattle.std.proofs.Common.{List}
use Rattle.std.specs.List.{All}
use Rattle.rustc_lexer.specs.{Token, model.Checkpoints.{AreBounds, IsReplaced}, Offsets.{IsBound}}
use Rattle.rustc_lexer.proofs.relex.checkpoints.Checkpoints.after.Given as goal

abbrev pub invariant-loop-i : goal.invariant-loop-i
invariant-loop-i l = (old new : List Token) → IsReplaced old new l.fn.kept l.fn.met l.fn.now → AreBounds old l.self
    → All (IsBound new) l.bounds
