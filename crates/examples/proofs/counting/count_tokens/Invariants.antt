use Rattle.std.proofs.Common.{◌≡◌, ◌+◌, ◌≤◌, length}
use Rattle.rustc_lexer.specs.LanguageText.{newest, source}
use Rattle.rustc_lexer.specs.Tokens.{tokens_of, tokens_left}
use Rattle.examples.proofs.counting.count_tokens.Given as goal

abbrev pub invariant-loop : goal.invariant-loop
invariant-loop l = record {
  few : l.count + length l.iterator'.rest ≤ length l.text;
  counted : l.count + length (tokens_left l.iterator') ≡ length (tokens_of (source newest) l.text);
}
