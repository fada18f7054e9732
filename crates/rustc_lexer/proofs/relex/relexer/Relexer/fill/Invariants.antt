use Rattle.std.proofs.Common.{◌≡◌, ◌+◌, ◌-◌, ◌<◌, false, length}
use Rattle.rustc_lexer.specs.Relexer.{Fills, is_done}
use Rattle.rustc_lexer.proofs.relex.relexer.Relexer.fill.Given as goal

abbrev pub invariant-places : goal.invariant-places
invariant-places g l = record {
  grammar : g.S.Stepper.grammar l.stepper ≡ g.S.Stepper.grammar l.fn.stepper;
  count : g.S.Stepper.count l.stepper ≡ g.S.Stepper.count l.fn.stepper + l.count;
  fills : Fills g.R.FromToken.written (g.S.Stepper.grammar l.fn.stepper).first l.fn.self l.fn.buffer l.count l.self
      l.buffer;
  begins : 0 < l.count → is_done l.fn.self.text l.fn.self.at ≡ false;
}

abbrev pub decreases-places : goal.decreases-places
decreases-places g l = length l.buffer - l.count
