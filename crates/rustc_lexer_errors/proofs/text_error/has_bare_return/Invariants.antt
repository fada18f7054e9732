use Rattle.std.proofs.Common.{◌≡◌, length}
use Rattle.rustc_lexer.specs.Classes.{Fits}
use Rattle.rustc_lexer_errors.specs.TextError.{has_bare_return}
use Rattle.rustc_lexer_errors.proofs.text_error.has_bare_return.Given as goal

abbrev pub invariant-loop-at : goal.invariant-loop-at
invariant-loop-at l = record {
  fits : Fits l.rest;
  same : has_bare_return l.bytes ≡ has_bare_return l.rest;
}

abbrev pub decreases-loop-at : goal.decreases-loop-at
decreases-loop-at l = length l.rest
