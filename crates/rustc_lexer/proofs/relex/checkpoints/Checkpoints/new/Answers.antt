use Rattle.std.proofs.{Common.{refl, arith}, lemmas.List.Elements.{All-replicate}}
use Rattle.rustc_lexer.specs.Offsets.{IsBound}
use Rattle.rustc_lexer.proofs.relex.checkpoints.Checkpoints.new.Goals as goal

pub returns : goal.returns
returns c = λ tokens. All-replicate (IsBound tokens) 63 (record { index = 0; offset = 0 }) (omega arith, refl)
