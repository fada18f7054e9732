use Rattle.rustc_lexer.proofs.lemmas.edits.Checkpoints.{back_moves}
use Rattle.rustc_lexer.proofs.relex.checkpoints.move_bound.Goals as goal

pub returns-then-bound-met : goal.returns-then-bound-met
returns-then-bound-met c =
    λ old new is here. back_moves old new c.args.kept c.args.met c.args.now is c.args.bound c.if-bound-met.true here
