use denote.Shadow.{shadow}
use denote.Text.{Utf8}
use Rattle.std.proofs.Common.{◌≡◌, take}
use Rattle.std.specs.Fmt.{WritesInCalls}
use Rattle.rustc_lexer.specs.{LanguageText.{part}, Tokens.{tokens_of, tokens_left}}
use Rattle.rustc_lexer_highlight.specs.Highlighted.{marked_tokens}
use Rattle.rustc_lexer_highlight.proofs.highlighted.write_first_tokens.Given as goal

abbrev pub invariant-loop-left : goal.invariant-loop-left
invariant-loop-left g l = record {
  utf8 : shadow (Utf8 l.rest);
  place : l.rest ≡ l.tokens.rest;
  left : (w : _) → WritesInCalls g.W.Write.write_str_gives l.output
      (marked_tokens l.format l.fn.edition l.rest (take l.left (tokens_left l.tokens))) w
      → WritesInCalls g.W.Write.write_str_gives l.initial.output
      (marked_tokens l.format l.fn.edition l.text (take l.count (tokens_of (part l.fn.edition) l.text))) w;
}

abbrev pub decreases-loop-left : goal.decreases-loop-left
decreases-loop-left g l = l.left
