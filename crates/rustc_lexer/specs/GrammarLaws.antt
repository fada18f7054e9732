-- The lookahead of each kind of token, and the laws of the grammar.
use Rattle.std.specs.Prelude.{ℕ, ◌≡◌, ◌↔◌, ◌<◌, ◌&&◌, ◌++◌, length, take, drop, codes, true, false, not, if◌then◌else◌}
use Rattle.std.specs.Prelude.{bytes_eq, chars}
use Rattle.rustc_lexer.specs.{Edition, TokenKind, Int, Char, Byte, LineComment, BlockComment, Eof, Whitespace, Ident}
use Rattle.rustc_lexer.specs.{InvalidIdent, RawIdent, ForcedKeywordIdent, UnknownPrefix, RawLifetime}
use Rattle.rustc_lexer.specs.{UnknownPrefixLifetime, Literal, Lifetime, Slash, Pound}
use Rattle.rustc_lexer.specs.Classes.{is_among, Chars, next_is, is_name_start, IsText, Utf8}
use Rattle.rustc_lexer.specs.Language.{IsTokenBefore}
use Rattle.rustc_lexer.specs.LanguageText.{Mode, newest, part, AreTokens, TheOnly, IsTokenIn}
use Rattle.rustc_lexer.specs.Partition.{tokens_by}
use Rattle.rustc_lexer.specs.State.{IsFirst}

-- Holds if the characters start with a token of this kind and text.
abbrev pub BeginsWith : Chars → TokenKind × Chars → Type 0
BeginsWith s (kind, w) = (next : Chars) × (s ≡ w ++ next) × IsTokenBefore next kind w

-- Returns the lookahead of a token: the number of characters after it that can decide whether it is a token. It is 2
-- for the prefixes `k` and `'r` (is there a hash, and does an identifier start after it?), for an integer (is there a
-- dot, and does the character after the dot prevent a fraction?), and for an unterminated literal that starts with `'`
-- or `b'` (is there a slash or a newline, and which character follows it?). It is 0 for a name of at least two
-- characters between quotes, for a terminated block comment, for `#"` and `##`, and for symbols except `/` and `#`. It
-- is 1 for every other token.
abbrev pub reach : TokenKind → Chars → ℕ
reach UnknownPrefix w = if bytes_eq w (codes "k") then 2 else 1
reach UnknownPrefixLifetime w = if bytes_eq w (codes "'r") then 2 else 1
reach (Literal (Int base empty_int) suffix_start) w = 2
reach (Literal (Char false) suffix_start) w = 2
reach (Literal (Byte false) suffix_start) w = 2
reach (Literal (Char true) suffix_start) w =
    if next_is is_name_start (drop 1 w) && not (next_is (is_among (codes "'")) (drop 2 w)) then 0
    else 1
reach (Literal kind suffix_start) w = 1
reach Eof w = 1
reach Whitespace w = 1
reach (LineComment style) w = 1
reach (BlockComment style false) w = 1
reach Ident w = 1
reach InvalidIdent w = 1
reach RawIdent w = 1
reach ForcedKeywordIdent w = 1
reach (Lifetime starts_with_number) w = 1
reach RawLifetime w = 1
reach Slash w = 1
reach Pound w = 1
reach kind w = 0

-- This record states the laws that are proved about the grammar. Answers.antt gets the tokens of a text, and the first
-- of them, from a value of this type, so a contract that names either depends on all laws. That value and the proofs
-- are in laws/TheLaws.antt.
pub record TheLaws : Type 0 where
  -- A text has exactly one list of tokens, as source and as a fragment, in each edition.
  pub tokens : (mode : Mode) (text : Utf8) → TheOnly (IsText text) (AreTokens mode (chars text))
  -- A fragment that is not empty has exactly one first token.
  pub first : (edition : Edition) (text : Utf8)
      → TheOnly (IsText text × (0 < length text)) (IsFirst edition text)
  -- Removing the first token of a fragment, again and again until nothing is left, yields the tokens of the fragment.
  pub cut : (edition : Edition) (text : Utf8)
      → tokens_by (λ rest. (first edition rest).answer) text ≡ (tokens (part edition) text).answer
  -- Each list of characters starts with exactly one token of the grammar. It is `Eof` only if the list is empty.
  pub one_token : (s : Chars) → TheOnly (Unit {0}) (BeginsWith s)
  -- The tokens of the newest edition are exactly the tokens of Language.antt.
  pub newest : (next w : Chars) (kind : TokenKind) → IsTokenIn newest next kind w
      ↔ IsTokenBefore next kind w
  -- A token stays a token if the text after it is replaced by another text that starts with the same `reach`
  -- characters.
  pub looks_no_further : (next other w : Chars) (kind : TokenKind) → IsTokenBefore next kind w
      → take (reach kind w) other ≡ take (reach kind w) next → IsTokenBefore other kind w
