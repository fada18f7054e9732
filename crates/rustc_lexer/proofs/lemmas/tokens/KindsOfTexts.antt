-- The text of each token of a text matches its kind.
use Rattle.std.proofs.lemmas.Grind.{common_steps}
use Rattle.std.proofs.Common.{◌≡◌, ℕ, ◌<◌, List, length, refl, arith, All, length-take}
use Rattle.std.proofs.lemmas.List.Elements.{All-nil, All-cons}
use Rattle.rustc_lexer.specs.{Eof, Classes.{IsText}, LanguageText.{Mode}}
use Rattle.rustc_lexer.specs.{Tokens.{tokens_of, HasSuffix, HaveTexts}, laws.LanguageTokens.{tokens-are}}
use Rattle.rustc_lexer.specs.{laws.Tokens.{token_at-cuts, by_tokens, tokens-nil, tokens-cons}, model.Taking.{token_at}}
use Rattle.rustc_lexer.proofs.lemmas.tokens.Kinds.{first-said, IsSaid}

token_at-said : (mode : Mode) (text : List ℕ) → IsText text → 0 < length text → IsSaid text (token_at mode text)
token_at-said mode text is some =
    first-said (rw (tokens-cons mode text is some) at (tokens-are text mode is)) text is refl

-- No token of a text is the end of the text.
pub token_at-not_end : (mode : Mode) (text : List ℕ) → IsText text → 0 < length text → (token_at mode text).kind ≡ Eof
    → ⊥
token_at-not_end mode text is some e =
    grind (
      arith,
      common_steps,
      e,
      (token_at-said mode text is some).text,
      token_at-cuts mode text is some,
      length-take ((token_at mode text).len) text,
      (token_at-cuts mode text is some).inside,
      (token_at-cuts mode text is some).not_empty,
    )

-- ---- all tokens of a text

abbrev TextsOf : List ℕ → Mode → Type 0
TextsOf text mode = HaveTexts text (tokens_of mode text)

pub texts : (text : List ℕ) (mode : Mode) → IsText text → HaveTexts text (tokens_of mode text)
texts = by_tokens TextsOf (λ mode. rw (tokens-nil mode) tt)
    (λ text mode is some rest. rw (tokens-cons mode text is some) ((token_at-said mode text is some).text, rest))

abbrev SuffixesOf : List ℕ → Mode → Type 0
SuffixesOf text mode = All HasSuffix (tokens_of mode text)

pub suffixes : (text : List ℕ) (mode : Mode) → IsText text → All HasSuffix (tokens_of mode text)
suffixes = by_tokens SuffixesOf (λ mode. rw (tokens-nil mode) (All-nil HasSuffix))
    (λ text mode is some rest. rw (tokens-cons mode text is some)
    (All-cons HasSuffix _ _ (token_at-said mode text is some).suffix rest))
