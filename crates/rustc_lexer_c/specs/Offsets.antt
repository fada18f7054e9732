-- The token at an offset, in a list of tokens as numbers.
use Rattle.std.specs.Prelude.{ℕ, ◌≡◌, ◌+◌, ◌≤◌, Bool, true, false, List, length, map}
use Rattle.rustc_lexer.specs.declared.relex.boundary.TokenStart.{TokenStart}
use Rattle.rustc_lexer.specs.declared.token.Token.{Token}
use Rattle.rustc_lexer.specs.Offsets.{ArePlaced, ContainsByte}
use Rattle.rustc_lexer.specs.Tokens.{bound}
use Rattle.rustc_lexer_c.specs.declared.token.CToken.{CToken}

-- A call searches for the token that contains the byte at `offset`, starting at the token boundary `near`. If there is
-- such a token, `at` is its index and its start. Otherwise `at` is `near`, and the byte is before or after all tokens.
pub record FindsToken (numbers : List CToken) (offset : ℕ) (near at : TokenStart) (found : Bool)
    : Type 0 where
  pub token : found ≡ true → (first : ℕ) (tokens : List Token)
      → ArePlaced (map (λ (t : CToken). t.len) numbers) first tokens near → ContainsByte first tokens offset at
  pub outside : found ≡ false → (first : ℕ) (tokens : List Token)
      → ArePlaced (map (λ (t : CToken). t.len) numbers) first tokens near
      → first ≤ offset → first + bound tokens (length tokens) ≤ offset
  pub same : found ≡ false → at ≡ near
