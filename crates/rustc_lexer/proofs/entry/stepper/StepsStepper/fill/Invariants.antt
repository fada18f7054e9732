use Rattle.std.proofs.Common.{◌-◌, length}
use Rattle.rustc_lexer.proofs.lemmas.tokens.Buffers.{IsFilling}
use Rattle.rustc_lexer.proofs.entry.stepper.StepsStepper.fill.Given as goal

abbrev pub invariant-places : goal.invariant-places
invariant-places g l = IsFilling g.R.FromToken.written l.self.edition l.text l.end l.fn.buffer l.buffer l.count l.tokens

abbrev pub decreases-places : goal.decreases-places
decreases-places g l = length l.buffer - l.count
