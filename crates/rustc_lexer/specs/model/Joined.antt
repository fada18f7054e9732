-- Model of the tokens that are final in a text that grows at its end.
use Rattle.std.specs.Prelude.{ℕ, ◌≡◌, ◌<◌, ◌≤◌, true, List, length}
use Rattle.rustc_lexer.specs.{Token}
use Rattle.rustc_lexer.specs.Locality.{has_two}
use Rattle.rustc_lexer.specs.Partition.{bound, tokens_by}

-- Holds if the offset is 0, or a token boundary of the text that at least two characters follow.
pub record IsFinalBoundary (first : List ℕ → Token) (text : List ℕ) (offset : ℕ) : Type 0 where
  pub number : ℕ
  pub few : number ≤ length (tokens_by first text)
  pub offset_is : bound (tokens_by first text) number ≡ offset
  pub two : 0 < offset → has_two text offset (length text) ≡ true
