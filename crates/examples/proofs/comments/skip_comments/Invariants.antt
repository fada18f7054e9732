use Rattle.std.proofs.Common.{◌≡◌, length}
use Rattle.rustc_lexer.specs.{LanguageText.{part, newest}, Tokens.{tokens_of, tokens_left}}
use Rattle.examples.specs.Comments.{past_comments}
use Rattle.examples.proofs.comments.skip_comments.Given as goal

abbrev pub invariant-loop-cursor : goal.invariant-loop-cursor
invariant-loop-cursor l = record {
  alone : l.cursor.pending ≡ 0;
  left : past_comments l.cursor.rest (tokens_left l.cursor) ≡ past_comments l.text (tokens_of (part newest) l.text);
}

abbrev pub decreases-loop-cursor : goal.decreases-loop-cursor
decreases-loop-cursor l = length l.cursor.rest
