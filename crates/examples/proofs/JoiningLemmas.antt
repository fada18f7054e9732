-- The tokens of a text that is joined from pieces.
use Rattle.std.proofs.Common.{◌≡◌, List, [], ◌∷◌, ◌++◌, subst, sym}
use Rattle.rustc_lexer.specs.{Answers.{first_in}, Classes.{Utf8}}
use Rattle.rustc_lexer.specs.Joined as step
use Rattle.rustc_lexer.specs.{Joined.{IsJoined}, LanguageText.{part}, Tokens.{tokens_of}}
use Rattle.rustc_lexer.specs.{declared.{edition.Edition.{Edition}, token.Token.{Token}}, laws.Cuts.{tokens-nil}}
use Rattle.examples.specs.Joining as the
use Rattle.examples.specs.Joining.{AreJoined, AreSeparator, AreTokensOf}

module _ (edition : Edition) where
  abbrev Tokens : Utf8 → List Token
  Tokens text = tokens_of (part edition) text

  put : {pieces : List Utf8} (text piece : Utf8) {separator tokens : List Token}
      → AreTokensOf edition pieces (Tokens text) → AreSeparator edition separator
      → tokens ≡ Tokens text ++ (separator ++ Tokens piece) → AreTokensOf edition (pieces ++ piece ∷ []) tokens
  put {pieces} text piece are is e = subst (AreTokensOf edition (pieces ++ piece ∷ [])) (sym e) (the.more piece are is)

  one_more : {pieces : List Utf8} (text piece : Utf8) {new : Utf8} → AreTokensOf edition pieces (Tokens text)
      → IsJoined edition text piece new → AreTokensOf edition (pieces ++ piece ∷ []) (Tokens new)
  one_more text piece are (step.touching touch) = put text piece are the.nothing touch
  one_more text piece are (step.spaced apart kept) = put text piece are the.space kept
  one_more text piece are (step.on_a_line apart close kept) = put text piece are the.newline kept

  pub tokens_of_joined : {pieces : List Utf8} {text : Utf8} → AreJoined edition pieces text
      → AreTokensOf edition pieces (Tokens text)
  tokens_of_joined the.none = subst (AreTokensOf edition []) (sym (tokens-nil (first_in edition))) the.none
  tokens_of_joined (the.more {text = text} {piece = piece} are is) = one_more text piece (tokens_of_joined are) is
