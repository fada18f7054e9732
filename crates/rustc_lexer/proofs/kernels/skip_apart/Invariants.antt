use Rattle.std.proofs.Common.{◌∷◌, length}
use Rattle.rustc_lexer.proofs.lemmas.tokens.Pairs.{IsLooking}
use Rattle.rustc_lexer.proofs.kernels.skip_apart.Given as goal

abbrev pub invariant-looks : goal.invariant-looks
invariant-looks l = IsLooking (l.first ∷ l.more) l.bytes l.left

abbrev pub decreases-looks : goal.decreases-looks
decreases-looks l = length l.left
