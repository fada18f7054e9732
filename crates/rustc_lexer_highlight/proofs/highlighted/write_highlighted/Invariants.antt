use denote.Shadow.{shadow}
use denote.Text.{Utf8}
use Rattle.std.proofs.Common.{◌≡◌}
use Rattle.std.specs.Fmt.{WritesInCalls}
use Rattle.rustc_lexer.specs.Tokens.{tokens_left}
use Rattle.rustc_lexer_highlight.specs.{Highlighted.{highlighted, marked_tokens}}
use Rattle.rustc_lexer_highlight.proofs.highlighted.write_highlighted.Given as goal

abbrev pub invariant-loop-token : goal.invariant-loop-token
invariant-loop-token g l = record {
  utf8 : shadow (Utf8 l.rest);
  place : l.rest ≡ l.token-iterator.rest;
  left : (w : _) → WritesInCalls g.W.Write.write_str_gives l.output
      (marked_tokens l.format l.fn.edition l.rest (tokens_left l.token-iterator)) w
      → WritesInCalls g.W.Write.write_str_gives l.fn.output (highlighted l.format l.fn.edition l.text) w;
}
