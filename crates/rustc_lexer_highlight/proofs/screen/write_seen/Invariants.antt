use denote.Shadow.{shadow}
use denote.Text.{Utf8}
use Rattle.std.proofs.Common.{length}
use Rattle.std.specs.{Fmt.{WritesInCalls}, Str.{chars, encode_utf8_all}}
use Rattle.rustc_lexer_highlight.specs.Screen.{seen}
use Rattle.rustc_lexer_highlight.proofs.screen.write_seen.Given as goal

abbrev pub invariant-loop-front : goal.invariant-loop-front
invariant-loop-front g l = record {
  utf8 : shadow (Utf8 l.rest);
  left : (w : _) → WritesInCalls g.W.Write.write_str_gives l.output (encode_utf8_all (seen (chars l.rest))) w
      → WritesInCalls g.W.Write.write_str_gives l.initial.output (encode_utf8_all (seen (chars l.text))) w;
}

abbrev pub decreases-loop-front : goal.decreases-loop-front
decreases-loop-front g l = length l.rest
