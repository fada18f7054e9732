-- A text that is joined from pieces, and its tokens.
use Rattle.std.specs.Prelude.{List, [], ◌∷◌, ◌++◌, codes}
use Rattle.rustc_lexer.specs.Classes.{Utf8}
use Rattle.rustc_lexer.specs.Joined.{IsJoined}
use Rattle.rustc_lexer.specs.LanguageText.{part}
use Rattle.rustc_lexer.specs.Tokens.{tokens_of}
use Rattle.rustc_lexer.specs.declared.edition.Edition.{Edition}
use Rattle.rustc_lexer.specs.declared.token.Token.{Token}

-- Holds if the text results from appending the pieces in order, by the rule of `IsJoined`.
pub data AreJoined (edition : Edition) : List Utf8 → Utf8 → Type 0 where
  none : AreJoined edition [] []
  more : {pieces : List Utf8} {text piece new : Utf8}
      → AreJoined edition pieces text
      → IsJoined edition text piece new
      → AreJoined edition (pieces ++ piece ∷ []) new

-- Holds if these are the tokens of a separator: none, a space or a newline.
pub data AreSeparator (edition : Edition) : List Token → Type 0 where
  nothing : AreSeparator edition []
  space : AreSeparator edition (tokens_of (part edition) (codes " "))
  newline : AreSeparator edition (tokens_of (part edition) (codes "\n"))

-- Holds if these are the tokens of the pieces, in order, with the tokens of a separator before each piece.
pub data AreTokensOf (edition : Edition) : List Utf8 → List Token → Type 0 where
  none : AreTokensOf edition [] []
  more : {pieces : List Utf8} {tokens separator : List Token} (piece : Utf8)
      → AreTokensOf edition pieces tokens
      → AreSeparator edition separator
      → AreTokensOf edition (pieces ++ piece ∷ [])
      (tokens ++ (separator ++ tokens_of (part edition) piece))
