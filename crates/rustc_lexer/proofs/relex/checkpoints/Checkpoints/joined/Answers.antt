use Rattle.std.proofs.Common.{arith, subst, sym}
use Rattle.rustc_lexer.specs.{declared.relex.checkpoints.Checkpoints.{Checkpoints}, model.Checkpoints.{AreBounds}}
use Rattle.rustc_lexer.proofs.relex.checkpoints.Checkpoints.joined.Goals as goal
use Rattle.rustc_lexer.proofs.relex.checkpoints.Checkpoints.joined.Goals.{then-bound-gt0, else-bound-gt0}

pub loop-bound-preserved : goal.loop-bound-preserved
loop-bound-preserved c = λ tokens are more. elim c.if-bound-gt0.branch [
  | then-bound-gt0 w ↦ subst (λ (a : Checkpoints). AreBounds tokens a) (sym w.all-is)
      (w.remember.ensures tokens (c.loop-bound.invariant tokens are more)
      (are c.loop-bound.bound-index _ (let less = c.loop-bound-test.true in omega arith)))
  | else-bound-gt0 w ↦ subst (λ (a : Checkpoints). AreBounds tokens a) (sym w.all-is)
      (c.loop-bound.invariant tokens are more)
]
