-- The results of calls that do not return tokens, in terms of the grammar: errors in raw strings, guarded strings,
-- shebang lines and editions. `w`, `next` and names in capitals are as in Language.antt. Texts are lists of characters
-- unless noted otherwise, and offsets are in bytes.
use Rattle.std.specs.Prelude.{◌≡◌, ◌==◌, ◌+◌, ◌-◌, ◌<◌, ◌≤◌, ℕ, suc, Bool, true, false, [], ◌∷◌, ◌++◌, length, drop}
use Rattle.std.specs.Prelude.{codes, Contains, Option, Some, None, Result, Ok, Err, List, bytes_eq, chars, decimal}
use Rattle.std.specs.Prelude.{find, nat_eq}
use Rattle.std.specs.Str.{byte}
use Rattle.rustc_lexer.specs.{Edition, RawStrError, TokenKind, E2015, E2018, E2021, E2024, InvalidStarter, NoTerminator}
use Rattle.rustc_lexer.specs.{TooManyDelimiters, LineComment, BlockComment, Whitespace}
use Rattle.rustc_lexer.specs.Classes.{is_among, Chars, Utf8, begins, next_is, AreAll, NextNotIn, bytes, is_inline}
use Rattle.rustc_lexer.specs.Language.{IsTokenBefore}
use Rattle.rustc_lexer.specs.LanguageText.{year}
use Rattle.rustc_lexer.specs.LiteralGrammar.{hashes, NoQuoteWith, IsRaw, IsDoubleQuoted, IsSuffixBefore}

-- ---- errors in raw strings

-- Holds if the character with number p of the text, counted from 1, is `r`.
abbrev pub StartsRaw : Utf8 → ℕ → Type 0
StartsRaw text p = (0 < p) × (next_is (λ c. c == byte "r") (drop (p - 1) (chars text)) ≡ true)

-- Holds if an unterminated raw string was probably meant to end at `offset`, where w is the text after its opening
-- quote, and w starts at byte `start`. `found` is the maximum number of hashes directly after a quote of w, and
-- `offset` is the end, in bytes, of the first quote with that many hashes. In `abc"#`, `found` is 1, and `offset` is
-- directly after the quote. If no quote has a hash after it, `found` is 0 and `offset` is None.
pub data IsLikelyEnd (start : ℕ) (w : Chars) : (found : ℕ) → (offset : Option ℕ) → Type 0 where
  none : NoQuoteWith 1 w → IsLikelyEnd start w 0 None
  best : {n : ℕ} (u v : Chars) → 0 < n → w ≡ u ++ (byte "\"" ∷ hashes n ++ v) → NoQuoteWith n u
      → NoQuoteWith (suc n) w
      → IsLikelyEnd start w n (Some (start + bytes (u ++ codes "\"")))

-- Holds if checking a raw string has this result, where the text starts after the `r` of a prefix of p characters. The
-- result is Ok if the text starts with a valid raw string, and the error otherwise. Each character of the prefix counts
-- as one byte, so the text starts at byte p.
pub data IsRawAnswer (p : ℕ) : Chars → Result Unit RawStrError → Type 0 where
  -- `##"a"##`, whatever follows it
  good : {n : ℕ} {w next : Chars} → IsRaw next (Some n) w → IsRawAnswer p (w ++ next) (Ok tt)
  too_many : (n : ℕ) (w next : Chars) → 255 < n → NoQuoteWith n w
      → IsRawAnswer p (hashes n ++ (byte "\"" ∷ w ++ (byte "\"" ∷ hashes n ++ next)))
      (Err (TooManyDelimiters n))
  -- `##"abc"#`
  unclosed : (n : ℕ) (w : Chars) {found : ℕ} {offset : Option ℕ}
      → NoQuoteWith n w → IsLikelyEnd (p + suc n) w found offset
      → IsRawAnswer p (hashes n ++ byte "\"" ∷ w) (Err (NoTerminator n found offset))
  -- `#~`; if the text ends after the hashes, the error contains U+0000
  no_quote : (n c : ℕ) (next : Chars) → is_among (codes "\"#") c ≡ false
      → IsRawAnswer p (hashes n ++ c ∷ next) (Err (InvalidStarter c))
  no_more : (n : ℕ) → IsRawAnswer p (hashes n) (Err (InvalidStarter 0))

-- ---- guarded strings and shebang lines

-- Holds if w is RESERVED_GUARDED_STRING_LITERAL with its closing hashes: n hashes and a double-quoted string, and if
-- that string is terminated, k ≤ n hashes and a suffix: `##"a"##s`, `##"a"#`. If k is less than n, no further hash
-- follows.
pub data IsGuardedBefore (next : Chars) : (n : ℕ) → (terminated : Bool) → Chars → Type 0 where
  closed : (n k : ℕ) {w suffix : Chars} → IsDoubleQuoted (hashes k ++ (suffix ++ next)) true w
      → k ≤ n → (k < n → NextNotIn (codes "#") (suffix ++ next)) → IsSuffixBefore next suffix
      → IsGuardedBefore next n true (hashes n ++ (byte "\"" ∷ w ++ (hashes k ++ suffix)))
  unclosed : (n : ℕ) {w : Chars} → IsDoubleQuoted next false w
      → IsGuardedBefore next n false (hashes n ++ (byte "\"" ∷ w))

-- Holds if this text after `#!` makes it the start of an attribute, which SHEBANG excludes. The text is a bracket,
-- possibly after WHITESPACE, LINE_COMMENT, BLOCK_COMMENT, or an unterminated block comment.
pub data IsAttributeRest : Chars → Type 0 where
  bracket : (next : Chars) → IsAttributeRest (byte "[" ∷ next)
  passed : {kind : TokenKind} {c : ℕ} {w next : Chars}
      → Contains (Whitespace ∷ LineComment None ∷ BlockComment None true ∷ BlockComment None false
      ∷ []) kind
      → IsTokenBefore next kind (c ∷ w) → IsAttributeRest next → IsAttributeRest (c ∷ w ++ next)

-- Holds if w is a line, in bytes, without its line ending. A line ends at a newline, at a carriage return and a
-- newline, or at the end of the text.
pub data IsLineBefore (next w : Utf8) : Type 0 where
  to_newline : AreAll is_inline w → begins (codes "\n") next ≡ true
      → ((u : Utf8) → w ≡ u ++ codes "\r" → ⊥)
      → IsLineBefore next w
  to_return : AreAll is_inline w → begins (codes "\r\n") next ≡ true → IsLineBefore next w
  to_end : AreAll is_inline w → next ≡ [] → IsLineBefore next w

-- Holds if this is the length of the shebang line (SHEBANG) at the start of the text, in bytes and without the line
-- ending, or None if there is no shebang line: `#!/bin/sh` is a shebang line, `#![no_std]` is not.
pub data IsShebang (text : Utf8) : Option ℕ → Type 0 where
  shebang : (w next : Utf8) → text ≡ codes "#!" ++ (w ++ next)
      → (IsAttributeRest (chars (w ++ next)) → ⊥)
      → IsLineBefore next w → IsShebang text (Some (length (codes "#!" ++ w)))
  none : ((rest : Utf8) → text ≡ codes "#!" ++ rest → IsAttributeRest (chars rest))
      → IsShebang text None

-- ---- editions, by their years

abbrev pub editions : List Edition
editions = E2015 ∷ E2018 ∷ E2021 ∷ E2024 ∷ []

-- Returns the edition of a year, given as a number.
abbrev pub edition_of_year : ℕ → Option Edition
edition_of_year number = find (λ edition. nat_eq number (year edition)) editions

-- Returns the edition of a year, given as a word.
abbrev pub edition_of : List ℕ → Option Edition
edition_of word = find (λ edition. bytes_eq word (decimal (year edition))) editions
