-- Offsets in a text and its tokens.
use Rattle.std.specs.Prelude.{ℕ, ◌+◌, ◌<◌, ◌≤◌, List, length, map, ◌≡◌, ◌↔◌}
use Rattle.rustc_lexer.specs.declared.relex.boundary.TokenStart.{TokenStart}
use Rattle.rustc_lexer.specs.{Token}
use Rattle.rustc_lexer.specs.Partition.{bound}

-- Holds if `at` is a boundary of the tokens, by its index and its offset.
abbrev pub IsBound : List Token → TokenStart → Type 0
IsBound tokens at = (at.index ≤ length tokens) × (at.offset ≡ bound tokens at.index)

-- Holds if the tokens have these lengths, and `near` is one of their boundaries, by its index and its offset, if the
-- first token starts at `first`.
pub record ArePlaced (lengths : List ℕ) (first : ℕ) (tokens : List Token) (near : TokenStart)
    : Type 0 where
  pub lengths_are : lengths ≡ map (λ (t : Token). t.len) tokens
  pub number : near.index ≤ length tokens
  pub offset : near.offset ≡ first + bound tokens near.index

-- Holds if the token with this index and this start contains the byte at `offset`, if the first token starts at
-- `first`.
pub record ContainsByte (first : ℕ) (tokens : List Token) (offset : ℕ) (at : TokenStart) : Type 0 where
  pub number : at.index < length tokens
  pub start : at.offset ≡ first + bound tokens at.index
  pub begins : at.offset ≤ offset
  pub ends : offset < first + bound tokens (at.index + 1)

-- Holds if the tokens from index `from` up to index `to` are the tokens that contain a byte of the range `start..stop`:
-- they start before its end, and end after its start. An empty range contains no byte.
pub record AreTouched (first : ℕ) (tokens : List Token) (start stop from to : ℕ) : Type 0 where
  pub order : from ≤ to
  pub inside : to ≤ length tokens
  pub touched : (k : ℕ) → k < length tokens
      → ((from ≤ k) × (k < to))
      ↔ ((start < stop) × (first + bound tokens k < stop) × (start < first + bound tokens (k + 1)))
