-- The end of the final tokens of a text, as C sees it.
use Rattle.std.specs.Prelude.{ℕ, ◌≡◌, ◌≢◌, List}
use Rattle.rustc_lexer.specs.LanguageText.{newest, part}
use Rattle.rustc_lexer.specs.Locality.{IsSettled, StaysUpTo}
use Rattle.rustc_lexer.specs.Tokens.{tokens_of}
use Rattle.rustc_lexer_c.specs.Status.{IsTextStatus, OK}

-- A call writes the end of the last token that at least two characters follow, or 0 if there is none. Up to there the
-- tokens are final. If the call fails, it writes 0.
pub record TellsSettled (text : List ℕ) (end status : ℕ) : Type 0 where
  pub status_is : IsTextStatus text status
  pub settled : status ≡ OK → IsSettled text (tokens_of (part newest) text) end
  pub stays : status ≡ OK → StaysUpTo end text (tokens_of (part newest))
  pub refused : status ≢ OK → end ≡ 0
