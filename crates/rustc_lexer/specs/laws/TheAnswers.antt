-- Each result of the grammar exists, and is the only one.
use Rattle.std.proofs.lemmas.Grind.{common_steps}
use Rattle.std.proofs.Common.{◌≡◌, ℕ, ◌<◌, ◌==◌, true, false, List, [], ◌∷◌, length, drop, refl, arith, sym, ap, ◌∙◌}
use Rattle.std.proofs.Common.{subst, pos_of_ne-zero}
use Rattle.std.proofs.lemmas.Bool.{eqb-true, eqb-false}
use Rattle.std.specs.Str.{chars}
use Rattle.std.proofs.lemmas.List.{nil_from_length}
use Rattle.rustc_lexer.specs.{Edition, Token, Eof}
use Rattle.rustc_lexer.specs.LanguageCalls.{IsRawAnswer, IsShebang}
use Rattle.rustc_lexer.specs.State.{IsFirst, TakesGuarded, TakesNext, nothing_left, first_left, State, token_past}
use Rattle.rustc_lexer.specs.LanguageText.{Mode, part, mode_after, AreTokens, TheOnly}
use Rattle.rustc_lexer.specs.Classes.{IsText}
use Rattle.rustc_lexer.specs.laws.Choice.{by_either}
use Rattle.rustc_lexer.specs.laws.LanguageGuarded.{guarded-answer}
use Rattle.rustc_lexer.specs.laws.LanguageRefusals.{raw-answer}
use Rattle.rustc_lexer.specs.laws.LanguageShebang.{shebang-answer}
use Rattle.rustc_lexer.specs.laws.LanguageTokens.{language, tokens-are, tokens-read}
use Rattle.rustc_lexer.specs.laws.State.{past_token, advance-end, advance-some}
use Rattle.rustc_lexer.specs.laws.Tokens.{tokens-cons, tokens-nil}
use Rattle.rustc_lexer.specs.model.Edition.{first_token_in}
use Rattle.rustc_lexer.specs.model.Guarded as means_guarded
use Rattle.rustc_lexer.specs.model.Raw as means_raw
use Rattle.rustc_lexer.specs.model.Shebang as means_shebang
use Rattle.rustc_lexer.specs.model.Taking as means_taking
use Rattle.rustc_lexer.specs.model.Taking.{token_at}
use Rattle.rustc_lexer.specs.model.Tokens as means_tokens

abbrev pub the_tokens : (mode : Mode) (text : List ℕ) → TheOnly (IsText text) (AreTokens mode (chars text))
the_tokens mode text = record { answer = means_tokens.read_tokens mode text; only = language text mode }

-- ---- the first token

abbrev first_of : Token → List Token → Token
first_of none [] = none
first_of none (token ∷ tokens) = token

module _ (mode : Mode) (text : List ℕ) (is : IsText text) (some : 0 < length text) where
  -- Every list of tokens that the language allows starts with the token that is read.
  pub first-read : (token : Token) (tokens : List Token) → AreTokens mode (chars text) (token ∷ tokens)
      → token ≡ token_at mode text
  first-read token tokens are = ap (first_of token) (sym (tokens-read are text is refl) ∙ tokens-cons mode text is some)

  -- The language allows a list that starts with the token that is read.
  pub first-are : AreTokens mode (chars text)
      (token_at mode text ∷ means_tokens.read_tokens (mode_after mode (token_at mode text).kind)
      (drop (token_at mode text).len text))
  first-are = subst (AreTokens mode (chars text)) (tokens-cons mode text is some) (tokens-are text mode is)

abbrev pub the_first : (edition : Edition) (text : List ℕ)
    → TheOnly (IsText text × (0 < length text)) (IsFirst edition text)
the_first edition text = record {
  answer = first_token_in edition text;
  only = λ is other. (
    λ first. first-read (part edition) text is.0 is.1 other first.0 first.1,
    λ e. subst (IsFirst edition text) (sym e) (_, first-are (part edition) text is.0 is.1),
  );
}

-- ---- the next token of a cursor

module _ (s : State) (is : IsText s.rest) where
  nonempty : (length s.rest == 0) ≡ false → 0 < length s.rest
  nonempty some = pos_of_ne-zero (eqb-false (length s.rest) 0 some)

  empty : (length s.rest == 0) ≡ true → s.rest ≡ []
  empty none = nil_from_length s.rest (eqb-true (length s.rest) 0 none)

  at_end : (length s.rest == 0) ≡ true → means_taking.take_next s ≡ (record { kind = Eof; len = 0 }, s)
  at_end none = advance-end s.pending s.rest s.mode s refl none

  at_token : (length s.rest == 0) ≡ false
      → means_taking.take_next s ≡
      (token_past s.pending (token_at s.mode s.rest), past_token s.rest s.mode (token_at s.mode s.rest))
  at_token some = advance-some s.pending s.rest s.mode s refl some

  no_token : (token : Token) (tokens : List Token) → (length s.rest == 0) ≡ true
      → AreTokens s.mode (chars s.rest) (token ∷ tokens) → ⊥
  no_token token tokens none are = let e : [] ≡ token ∷ tokens =
      sym (ap (means_tokens.read_tokens s.mode) (empty none) ∙ tokens-nil s.mode)
      ∙ tokens-read are s.rest is refl in cc

  pub next-read : (other : Token × State) → TakesNext s other → other ≡ means_taking.take_next s
  next-read _ (nothing_left e) = sym (at_end (ap (λ (text : List ℕ). length text == 0) e))
  next-read _ (first_left {token} {tokens} are) = grind (arith, common_steps, no_token, first-read, nonempty, at_token)

  pub next-is : TakesNext s (means_taking.take_next s)
  next-is = by_either (length s.rest == 0)
      (λ e. subst (TakesNext s) (sym (at_end e)) (nothing_left (empty e)))
      (λ e. subst (TakesNext s) (sym (at_token e)) (first_left (first-are s.mode s.rest is (nonempty e))))

abbrev pub the_next : (s : State) → TheOnly (IsText s.rest) (TakesNext s)
the_next s = record {
  answer = means_taking.take_next s;
  only = λ is other. (next-read s is other, λ e. subst (TakesNext s) (sym e) (next-is s is));
}

-- ---- functions other than lexing

abbrev pub the_guarded : (s : State) → TheOnly (Unit {0}) (TakesGuarded s)
the_guarded s = record {
  answer = means_guarded.take_guarded s;
  only = λ always. guarded-answer s;
}

abbrev pub the_raw : (text : List ℕ) (prefix : ℕ) → TheOnly (Unit {0}) (IsRawAnswer prefix (drop prefix (chars text)))
the_raw text prefix = record {
  answer = means_raw.check_raw text prefix;
  only = λ always. raw-answer text prefix;
}

abbrev pub the_shebang : (text : List ℕ) → TheOnly (IsText text) (IsShebang text)
the_shebang text = record {
  answer = means_shebang.read_shebang text;
  only = λ is. shebang-answer text is;
}
