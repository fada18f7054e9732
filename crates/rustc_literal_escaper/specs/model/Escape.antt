-- The model of reading an escape: the element after a backslash, and the rest of the text.
use Rattle.std.specs.Prelude.{◌≡◌, ℕ, ◌+◌, ◌*◌, ◌==◌, nat_le, Bool, if◌then◌else◌, List, [], ◌∷◌, length, filter}
use Rattle.std.specs.Prelude.{Option, MatchOption}
use Rattle.std.specs.{Char.{digit_value}, Str.{byte}}
use Rattle.rustc_literal_escaper.specs.declared.element.Element.{Element}
use Rattle.rustc_literal_escaper.specs.declared.element.Element.TheVariants.{Byte, Unicode, Diagnostic}
use Rattle.rustc_literal_escaper.specs.declared.error.EscapeError.TheVariants.{LoneSlash, InvalidEscape}
use Rattle.rustc_literal_escaper.specs.declared.error.EscapeError.TheVariants.{TooShortHexEscape}
use Rattle.rustc_literal_escaper.specs.declared.error.EscapeError.TheVariants.{InvalidCharInHexEscape}
use Rattle.rustc_literal_escaper.specs.declared.error.EscapeError.TheVariants.{NoBraceInUnicodeEscape}
use Rattle.rustc_literal_escaper.specs.declared.error.EscapeError.TheVariants.{InvalidCharInUnicodeEscape}
use Rattle.rustc_literal_escaper.specs.declared.error.EscapeError.TheVariants.{EmptyUnicodeEscape}
use Rattle.rustc_literal_escaper.specs.declared.error.EscapeError.TheVariants.{UnclosedUnicodeEscape}
use Rattle.rustc_literal_escaper.specs.declared.error.EscapeError.TheVariants.{LeadingUnderscoreUnicodeEscape}
use Rattle.rustc_literal_escaper.specs.declared.error.EscapeError.TheVariants.{OverlongUnicodeEscape}
use Rattle.rustc_literal_escaper.specs.Grammar.{hex_value, is_digit_or_underscore, is_hex}

-- `front_run` returns the longest prefix of characters in a class, and `past_run` returns the text after it.
abbrev pub front_run : (ℕ → Bool) → List ℕ → List ℕ
front_run p [] = []
front_run p (c ∷ s) = if p c then c ∷ front_run p s else []

abbrev pub past_run : (ℕ → Bool) → List ℕ → List ℕ
past_run p [] = []
past_run p (c ∷ s) = if p c then past_run p s else c ∷ s

-- Returns the element of an escape of one character: NUL, tab, newline, carriage return, the quotes and the backslash.
abbrev pub short : ℕ → Element
short c =
    if c == byte "0" then Byte 0 else
    if c == byte "t" then Byte 9 else
    if c == byte "n" then Byte 10 else
    if c == byte "r" then Byte 13 else
    if c == byte "\"" then Byte c else
    if c == byte "'" then Byte c else
    if c == byte "\\" then Byte c else
    Diagnostic InvalidEscape

-- Reads the text after `\x`: two hexadecimal digits.
abbrev pub hex : List ℕ → Element × List ℕ
hex [] = (Diagnostic TooShortHexEscape, [])
hex (h ∷ []) = (if is_hex h then Diagnostic TooShortHexEscape else Diagnostic InvalidCharInHexEscape, [])
hex (h ∷ l ∷ s) =
    if is_hex h then (
      (if is_hex l then Byte (digit_value h * 16 + digit_value l) else Diagnostic
          InvalidCharInHexEscape),
      s,
    )
    else (Diagnostic InvalidCharInHexEscape, l ∷ s)

-- Returns the element of a number with these digits. More than six digits are an error.
abbrev pub number : List ℕ → Element
number digits =
    if nat_le (length digits) 6 then Unicode (hex_value digits) else Diagnostic OverlongUnicodeEscape

-- Returns the element of an escape whose digits have been read, by the text after them: the closing brace, another
-- character, or nothing.
abbrev pub closed : List ℕ → List ℕ → Element × List ℕ
closed digits [] = (Diagnostic UnclosedUnicodeEscape, [])
closed digits (c ∷ s) =
    (if c == byte "}" then number (filter is_hex digits) else Diagnostic InvalidCharInUnicodeEscape, s)

abbrev pub closed_at_run : List ℕ → Element × List ℕ
closed_at_run s = closed (front_run is_digit_or_underscore s) (past_run is_digit_or_underscore s)

-- Reads the text after too many digits.
abbrev pub overlong : List ℕ → Element × List ℕ
overlong [] = (Diagnostic UnclosedUnicodeEscape, [])
overlong (c ∷ s) =
    if is_digit_or_underscore c then overlong s else
    (if c == byte "}" then Diagnostic OverlongUnicodeEscape else Diagnostic InvalidCharInUnicodeEscape, s)

abbrev pub braced : List ℕ → Element × List ℕ
braced [] = (Diagnostic UnclosedUnicodeEscape, [])
braced (c ∷ s) =
    if c == byte "_" then (Diagnostic LeadingUnderscoreUnicodeEscape, s) else
    if c == byte "}" then (Diagnostic EmptyUnicodeEscape, s) else
    if is_hex c then closed_at_run (c ∷ s) else
    (Diagnostic InvalidCharInUnicodeEscape, s)

-- Reads the text after `\u`: hexadecimal digits in braces.
abbrev pub unicode : List ℕ → Element × List ℕ
unicode [] = (Diagnostic NoBraceInUnicodeEscape, [])
unicode (c ∷ s) = if c == byte "{" then braced s else (Diagnostic NoBraceInUnicodeEscape, s)

-- Reads the text after a backslash.
abbrev pub escape : List ℕ → Element × List ℕ
escape [] = (Diagnostic LoneSlash, [])
escape (c ∷ s) =
    if c == byte "x" then hex s else
    if c == byte "u" then unicode s else
    (short c, s)

-- Holds if the text `s` is the character `next` followed by `left`, or is empty if there is no such character.
abbrev pub StartsWith : List ℕ → Option ℕ → List ℕ → Type 0
StartsWith s next left = MatchOption next ((s ≡ []) × (left ≡ [])) (λ c. s ≡ c ∷ left)
