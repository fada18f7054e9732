use Rattle.std.proofs.lemmas.List.Elements.{All-replicate}
use Rattle.rustc_lexer.specs.Offsets.{IsBound}
use Rattle.rustc_lexer.proofs.lemmas.edits.Checkpoints.{kept_stays}
use Rattle.rustc_lexer.proofs.relex.checkpoints.Checkpoints.after.Goals as goal

pub loop-i-init : goal.loop-i-init
loop-i-init c = λ old new is are. All-replicate (IsBound new) 63 c.args.kept
    (kept_stays old new c.args.kept c.args.met c.args.now is)
