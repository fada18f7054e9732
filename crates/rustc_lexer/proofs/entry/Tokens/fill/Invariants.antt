use Rattle.std.proofs.Common.{◌≡◌, ◌-◌, drop, length}
use Rattle.rustc_lexer.specs.Tokens.{state_past, tokens_left}
use Rattle.rustc_lexer.proofs.lemmas.tokens.Buffers.{IsWritten}
use Rattle.rustc_lexer.proofs.entry.Tokens.fill.Given as goal

abbrev pub invariant-places : goal.invariant-places
invariant-places g l = record {
  past : l.tokens ≡ state_past l.count l.fn.self;
  left : tokens_left l.tokens ≡ drop l.count (tokens_left l.fn.self);
  written : IsWritten g.R.FromToken.written (tokens_left l.fn.self) l.fn.buffer l.buffer l.count;
}

abbrev pub decreases-places : goal.decreases-places
decreases-places g l = length l.buffer - l.count
