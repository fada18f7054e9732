-- The state of a cursor or an iterator, and the effect of a call on it.
use Rattle.std.specs.Prelude.{ℕ, ◌≡◌, ◌+◌, ◌≤◌, List, drop, Bool, [], ◌∷◌, ◌++◌, codes, Option, Some, None, chars}
use Rattle.rustc_lexer.specs.{Edition, GuardedStr, Token, TokenKind, Literal, Eof}
use Rattle.rustc_lexer.specs.Classes.{Chars, Utf8, bytes, NextNotIn}
use Rattle.rustc_lexer.specs.LanguageCalls.{IsGuardedBefore}
use Rattle.rustc_lexer.specs.LanguageText.{Mode, part, mode_after, AreTokens}
use Rattle.rustc_lexer.specs.LiteralGrammar.{hashes}

-- A state consists of the number of bytes that were consumed since the last token, the text that is left, and the mode
-- for lexing it.
pub record State : Type 0 where
  pub pending : ℕ
  pub rest : List ℕ
  pub mode : Mode

-- Returns the kind of a token with the pending bytes added to the offset of its suffix.
abbrev pub kind_past : ℕ → TokenKind → TokenKind
kind_past pending (Literal kind suffix_start) = Literal kind (pending + suffix_start)
kind_past pending kind = kind

-- Returns the token with the pending bytes added to its length and to the offset of its suffix.
abbrev pub token_past : ℕ → Token → Token
token_past pending token = record { kind = kind_past pending token.kind; len = pending + token.len }

-- Returns the offset where the suffix of a token starts, or 0 if the token is not a literal.
abbrev pub suffix_start_of : TokenKind → ℕ
suffix_start_of (Literal kind suffix_start) = suffix_start
suffix_start_of kind = 0

-- Holds if the offset of the suffix is at most the length of the token.
abbrev pub HasSuffixWithin : Token → Type 0
HasSuffixWithin token = suffix_start_of token.kind ≤ token.len

-- Holds if the token is the first token of the text, lexed as a fragment in an edition.
abbrev pub IsFirst : Edition → Utf8 → Token → Type 0
IsFirst edition text token =
    (tokens : List Token) × AreTokens (part edition) (chars text) (token ∷ tokens)

-- Holds if advancing a cursor returns this token and leaves this state. At the end of the text, the token is `Eof` of
-- length 0, and the state does not change. Otherwise the token is the first token that the grammar allows there, with
-- the pending bytes added in front.
pub data TakesNext (s : State) : Token × State → Type 0 where
  nothing_left : s.rest ≡ [] → TakesNext s (record { kind = Eof; len = 0 }, s)
  first_left : {token : Token} {tokens : List Token}
      → AreTokens s.mode (chars s.rest) (token ∷ tokens)
      → TakesNext s (
        token_past s.pending token,
        record
            { pending = 0; rest = drop token.len s.rest; mode = mode_after s.mode token.kind },
      )

-- Holds if reading a guarded string with a cursor returns this result and leaves this state. The result is the string,
-- with the pending bytes added to its length. If the hashes do not start a guarded string, the result is None, and only
-- the hashes are consumed and become pending.
pub data TakesGuarded (s : State) : Option GuardedStr × State → Type 0 where
  string : {n : ℕ} {terminated : Bool} {w next : Chars} → chars s.rest ≡ w ++ next
      → IsGuardedBefore next n terminated w
      → TakesGuarded s (
        Some record { n_hashes = n; terminated = terminated; token_len = s.pending + bytes w },
        record s { pending = 0; rest = drop (bytes w) s.rest },
      )
  none : (n : ℕ) (next : Chars) → chars s.rest ≡ hashes n ++ next → NextNotIn (codes "\"#") next
      → TakesGuarded s (None, record s { pending = s.pending + n; rest = drop n s.rest })
