use Rattle.std.proofs.Common.{◌≡◌, ◌+◌, ◌-◌, ◌<◌, ℕ, length}
use Rattle.rustc_lexer.specs.Tokens.{bound, tokens_by}
use Rattle.rustc_lexer.proofs.lemmas.tokens.Buffers.{IsWritten}
use Rattle.rustc_lexer.proofs.entry.stepper.Stepper.fill.Given as goal

abbrev pub invariant-places : goal.invariant-places
invariant-places g l = record {
  written : IsWritten g.R.FromToken.written (tokens_by (g.Self.Stepper.grammar l.fn.self).first l.text) l.fn.buffer
      l.buffer l.written;
  begun : (k : ℕ) → k < l.written → bound (tokens_by (g.Self.Stepper.grammar l.fn.self).first l.text) k < l.end;
  offset : l.at ≡ bound (tokens_by (g.Self.Stepper.grammar l.fn.self).first l.text) l.written;
  count : g.Self.Stepper.count l.self ≡ g.Self.Stepper.count l.fn.self + l.written;
  grammar : g.Self.Stepper.grammar l.self ≡ g.Self.Stepper.grammar l.fn.self;
}

abbrev pub decreases-places : goal.decreases-places
decreases-places g l = length l.buffer - l.written
