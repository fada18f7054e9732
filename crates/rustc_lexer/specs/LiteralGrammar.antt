-- The grammar of literals: quoted text, raw strings, and which literals can have a suffix, including numbers. `w`,
-- `next` and names in capitals are as in Language.antt; all texts here are lists of characters. RawStr, RawByteStr and
-- RawCStr have the field n_hashes, and the other quoted kinds have the field terminated. Unterminated literals and
-- malformed raw strings are not in the Reference.
use Rattle.std.specs.Prelude.{◌≡◌, ◌<◌, ◌≤◌, ℕ, zero, suc, ◌==◌, Bool, true, false, [], ◌∷◌, ◌++◌, codes, is_some}
use Rattle.std.specs.Prelude.{Option, Some, None}
use Rattle.std.specs.Str.{byte}
use Rattle.rustc_lexer.specs.{LiteralKind, Char, Byte, Str, ByteStr, CStr, RawStr, RawByteStr, RawCStr}
use Rattle.rustc_lexer.specs.Classes.{is_among, is_id_start, is_id_continue, is_ident, Chars, begins, AreAll, NextIsNot}
use Rattle.rustc_lexer.specs.Classes.{NextIn, is_word_continue, is_name_start, begins_ident_after}
use Rattle.rustc_lexer.specs.NumberGrammar.{IsNumberBefore}

-- Holds if w is quoted text that ends in `close`. The text before `close` consists of characters that are not special,
-- and of escapes: a backslash and any character.
pub data QuotedTo (close : Chars) (special : ℕ → Bool) : Chars → Type 0 where
  ends : QuotedTo close special close
  plain : {c : ℕ} {w : Chars}
      → special c ≡ false
      → QuotedTo close special w
      → QuotedTo close special (c ∷ w)
  escape : {c : ℕ} {w : Chars} → QuotedTo close special w
      → QuotedTo close special (byte "\\" ∷ c ∷ w)

-- Holds if w is the rest of STRING_LITERAL, BYTE_STRING_LITERAL or C_STRING_LITERAL after its opening quote.
-- `terminated` is true if w ends in the closing quote: `a"`, `\""`. Otherwise w is the rest of the text, which can end
-- in a lone backslash: `a\`.
pub data IsDoubleQuoted (next : Chars) : (terminated : Bool) → Chars → Type 0 where
  closed : {w : Chars} → QuotedTo (codes "\"") (is_among (codes "\"\\")) w
      → IsDoubleQuoted next true w
  unclosed : {w : Chars}
      → next ≡ []
      → QuotedTo [] (is_among (codes "\"\\")) w
      → IsDoubleQuoted next false w
  unclosed_escape : {w : Chars}
      → next ≡ []
      → QuotedTo (codes "\\") (is_among (codes "\"\\")) w
      → IsDoubleQuoted next false w

-- Holds if w is text between single quotes that ends in `close`. Outside its escapes, the text before `close` has no
-- quote, slash or newline.
abbrev pub SingleTo : Chars → Chars → Type 0
SingleTo close w = QuotedTo close (is_among (codes "'/\n\\")) w

-- Holds if w is the rest of CHAR_LITERAL or BYTE_LITERAL after its opening quote. `terminated` is true if w ends in the
-- closing quote. In the Reference there is one character or one escape between the quotes.
pub data IsSingleQuoted (next : Chars) : (terminated : Bool) → Chars → Type 0 where
  -- any character except a backslash, and a quote: `a'`, `/'` and `''`
  one : {c : ℕ} → (c == byte "\\") ≡ false → IsSingleQuoted next true (c ∷ codes "'")
  -- text up to a quote: `ab'`, `\''`; also the quote alone, unless another quote follows it
  closed : {w : Chars}
      → SingleTo (codes "'") w
      → begins (codes "''") (w ++ next) ≡ false
      → IsSingleQuoted next true w
  -- a closing quote directly after a newline: `ab`, the newline and `'`
  closed_line : {w : Chars} → SingleTo (codes "\n'") w → IsSingleQuoted next true w
  -- unterminated text that ends before a slash: `ab` before `/c'`; but not the empty text before `/'` (see `one`)
  at_slash : {w : Chars}
      → SingleTo [] w
      → NextIn (codes "/") next
      → begins (codes "/'") (w ++ next) ≡ false
      → IsSingleQuoted next false w
  -- unterminated text that ends before a newline, if no quote follows the newline: `ab` before a newline and `c'`
  at_newline : {w : Chars}
      → SingleTo [] w
      → NextIn (codes "\n") next
      → begins (codes "\n'") next ≡ false
      → IsSingleQuoted next false w
  -- unterminated text up to the end of the text, which can end in a lone backslash
  unclosed : {w : Chars}
      → next ≡ []
      → SingleTo [] w
      → IsSingleQuoted next false w
  unclosed_escape : {w : Chars}
      → next ≡ []
      → SingleTo (codes "\\") w
      → IsSingleQuoted next false w

-- ---- raw strings

-- Returns n hashes.
abbrev pub hashes : ℕ → Chars
hashes zero = []
hashes (suc n) = byte "#" ∷ hashes n

-- Holds if no quote of the text has n hashes directly after it.
abbrev pub NoQuoteWith : ℕ → Chars → Type 0
NoQuoteWith n w = (u v : Chars) → w ≡ u ++ (byte "\"" ∷ hashes n ++ v) → ⊥

-- Holds if w is the rest of RAW_STRING_LITERAL, RAW_BYTE_STRING_LITERAL or RAW_C_STRING_LITERAL after its `r`, without
-- a suffix: n hashes, a quote, text without a quote that has n hashes after it, a quote, and n hashes. n_hashes is n if
-- the string is terminated and n is at most 255: it is 1 for `#"a"b"#`, and 0 for `"a"`. Otherwise it is None. An
-- unterminated string is the rest of the text: `#"a"`. If no quote follows the hashes, the token has one more
-- character, if there is one: `#~`.
pub data IsRaw (next : Chars) : (n_hashes : Option ℕ) → Chars → Type 0 where
  closed : (n : ℕ) (w : Chars)
      → n ≤ 255
      → NoQuoteWith n w
      → IsRaw next (Some n) (hashes n ++ (byte "\"" ∷ w ++ byte "\"" ∷ hashes n))
  too_many : (n : ℕ) (w : Chars)
      → 255 < n
      → NoQuoteWith n w
      → IsRaw next None (hashes n ++ (byte "\"" ∷ w ++ byte "\"" ∷ hashes n))
  unclosed : (n : ℕ) (w : Chars)
      → next ≡ []
      → NoQuoteWith n w
      → IsRaw next None (hashes n ++ byte "\"" ∷ w)
  no_quote : (n c : ℕ) → is_among (codes "\"#") c ≡ false
      → IsRaw next None (hashes (suc n) ++ c ∷ [])
  no_more : (n : ℕ) → next ≡ [] → IsRaw next None (hashes (suc n))

-- ---- literals

-- Holds if w is a literal of this kind, without its suffix, when `next` follows it. `may_suffix` is true if the literal
-- can have a suffix.
pub data IsLiteralBefore (next : Chars) : LiteralKind → (may_suffix : Bool) → Chars → Type 0 where
  -- CHAR_LITERAL: `'/'`, and `'a'`, although `a` can start the name of a lifetime. Not in the Reference: `'''`
  char_of_one : {c : ℕ} → (c == byte "\\") ≡ false
      → IsLiteralBefore next (Char true) true (byte "'" ∷ c ∷ codes "'")
  -- CHAR_LITERAL: `'\n'`. Not in the Reference: `'+-'`, and `'+` at the end of the text. This is not the rule for
  -- `'ab'`, since `a` can start a name
  char : {t : Bool} {w : Chars}
      → IsSingleQuoted next t w
      → NextIsNot is_name_start w
      → IsLiteralBefore next (Char t) t (codes "'" ++ w)
  -- not in the Reference: a name of at least two characters between quotes, `'ab'`. It cannot have a suffix: `'ab'c` is
  -- two tokens
  char_of_name : {c d : ℕ} (w : Chars)
      → is_name_start c ≡ true
      → AreAll is_word_continue (d ∷ w)
      → IsLiteralBefore next (Char true) false (byte "'" ∷ c ∷ d ∷ w ++ codes "'")
  -- BYTE_LITERAL: `b'a'`. Not in the Reference: `b'ab'`
  byte_char : {t : Bool} {w : Chars} → IsSingleQuoted next t w
      → IsLiteralBefore next (Byte t) t (codes "b'" ++ w)
  -- STRING_LITERAL, BYTE_STRING_LITERAL, C_STRING_LITERAL: `"a"`, `b"a"`, `c"a"`
  str : {t : Bool} {w : Chars} → IsDoubleQuoted next t w
      → IsLiteralBefore next (Str t) t (codes "\"" ++ w)
  byte_str : {t : Bool} {w : Chars} → IsDoubleQuoted next t w
      → IsLiteralBefore next (ByteStr t) t (codes "b\"" ++ w)
  c_str : {t : Bool} {w : Chars} → IsDoubleQuoted next t w
      → IsLiteralBefore next (CStr t) t (codes "c\"" ++ w)
  -- RAW_STRING_LITERAL: `r"a"`, `r#"a"#`. Not in the Reference: `r#1`. Not `r#a`, which is a raw identifier
  raw_str : {n : Option ℕ} {w : Chars}
      → IsRaw next n w
      → begins_ident_after (codes "#") w ≡ false
      → IsLiteralBefore next (RawStr n) (is_some n) (codes "r" ++ w)
  -- RAW_BYTE_STRING_LITERAL, RAW_C_STRING_LITERAL: `br"a"`, `cr"a"`. Not in the Reference: `br#a`
  raw_byte_str : {n : Option ℕ} {w : Chars}
      → IsRaw next n w
      → IsLiteralBefore next (RawByteStr n) (is_some n) (codes "br" ++ w)
  raw_c_str : {n : Option ℕ} {w : Chars}
      → IsRaw next n w
      → IsLiteralBefore next (RawCStr n) (is_some n) (codes "cr" ++ w)
  -- INTEGER_LITERAL, FLOAT_LITERAL, RESERVED_NUMBER: `1`, `0x1F`, `1.5e3`
  number : {kind : LiteralKind} {w : Chars} → IsNumberBefore next kind w
      → IsLiteralBefore next kind true w

-- Holds if w is the suffix of a literal when `next` follows it: SUFFIX, or nothing if no identifier starts after the
-- literal. `_` is a suffix here, but not in the Reference.
pub data IsSuffixBefore (next : Chars) : Chars → Type 0 where
  none : NextIsNot is_id_start next → IsSuffixBefore next []
  some : {w : Chars}
      → is_ident w ≡ true
      → NextIsNot is_id_continue next
      → IsSuffixBefore next w
