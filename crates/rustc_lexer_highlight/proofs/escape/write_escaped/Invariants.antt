use denote.Shadow.{shadow}
use denote.Text.{Utf8}
use Rattle.std.proofs.Common.{length}
use Rattle.std.specs.Fmt.{WritesInCalls}
use Rattle.rustc_lexer_highlight.specs.Escape.{escaped}
use Rattle.rustc_lexer_highlight.proofs.escape.write_escaped.Given as goal

abbrev pub invariant-loop-at : goal.invariant-loop-at
invariant-loop-at g l = record {
  utf8 : shadow (Utf8 l.rest);
  left : (w : _) → WritesInCalls g.W.Write.write_str_gives l.output (escaped l.rest) w
      → WritesInCalls g.W.Write.write_str_gives l.initial.output (escaped l.text) w;
}

abbrev pub decreases-loop-at : goal.decreases-loop-at
decreases-loop-at g l = length l.rest
