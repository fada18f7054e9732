-- The grammar of the contents of a literal, the text between its quotes: its elements, and the units, errors and
-- warnings that they produce. It has one rule for each form, and describes no algorithm. docs/ESCAPES.md explains the
-- rules in words, and Meaning.antt defines the value of an element in each kind of literal.
--
-- Names in capitals are productions of the Rust Reference. `w` is the text of an element, and `next` is all of the text
-- after it, which is [] at the end of the literal. The Reference does not describe invalid literals. Here, they consist
-- of elements too: the text of an error ends with the offending character, or at the end of the literal.
use Rattle.std.specs.Prelude.{◌≡◌, ◌↔◌, ◌<◌, ◌≤◌, ℕ, ◌+◌, ◌*◌, ◌==◌, ◌||◌, Bool, true, false, if◌then◌else◌, List, []}
use Rattle.std.specs.Prelude.{◌∷◌, ◌++◌, length, fold, filter, codes, Result, Ok, Err}
use Rattle.std.specs.Char.{digit_value, is_digit, is_whitespace}
use Rattle.std.specs.List.{list_all, list_any}
use Rattle.std.specs.Str.{byte, encode_utf8_all}
use Rattle.std.specs.declared.ops.Range.{Range}
use Rattle.rustc_literal_escaper.specs.declared.element.Element.{Element}
use Rattle.rustc_literal_escaper.specs.declared.element.Element.TheVariants.{Plain, Byte, Unicode, Diagnostic}
use Rattle.rustc_literal_escaper.specs.declared.error.EscapeError.{EscapeError}
use Rattle.rustc_literal_escaper.specs.declared.error.EscapeError.TheVariants.{ZeroChars, MoreThanOneChar, LoneSlash}
use Rattle.rustc_literal_escaper.specs.declared.error.EscapeError.TheVariants.{InvalidEscape, BareCarriageReturn}
use Rattle.rustc_literal_escaper.specs.declared.error.EscapeError.TheVariants.{BareCarriageReturnInRawString}
use Rattle.rustc_literal_escaper.specs.declared.error.EscapeError.TheVariants.{EscapeOnlyChar, TooShortHexEscape}
use Rattle.rustc_literal_escaper.specs.declared.error.EscapeError.TheVariants.{InvalidCharInHexEscape}
use Rattle.rustc_literal_escaper.specs.declared.error.EscapeError.TheVariants.{NoBraceInUnicodeEscape}
use Rattle.rustc_literal_escaper.specs.declared.error.EscapeError.TheVariants.{InvalidCharInUnicodeEscape}
use Rattle.rustc_literal_escaper.specs.declared.error.EscapeError.TheVariants.{EmptyUnicodeEscape}
use Rattle.rustc_literal_escaper.specs.declared.error.EscapeError.TheVariants.{UnclosedUnicodeEscape}
use Rattle.rustc_literal_escaper.specs.declared.error.EscapeError.TheVariants.{LeadingUnderscoreUnicodeEscape}
use Rattle.rustc_literal_escaper.specs.declared.error.EscapeError.TheVariants.{OverlongUnicodeEscape}
use Rattle.rustc_literal_escaper.specs.declared.error.EscapeError.TheVariants.{UnskippedWhitespaceWarning}
use Rattle.rustc_literal_escaper.specs.declared.error.EscapeError.TheVariants.{MultipleSkippedLinesWarning}

-- A text as a list of characters is a `Chars`.
abbrev pub Chars : Type 0
Chars = List ℕ

-- Returns the length of the characters in bytes, in UTF-8.
abbrev pub bytes : Chars → ℕ
bytes w = length (encode_utf8_all w)

-- Whether the character is in the list.
abbrev pub is_among : Chars → ℕ → Bool
is_among ds c = list_any (λ d. c == d) ds

-- ---- escapes

-- Whether the character is a hexadecimal digit (HEX_DIGIT).
abbrev pub is_hex : ℕ → Bool
is_hex c = is_digit c 16

abbrev pub is_digit_or_underscore : ℕ → Bool
is_digit_or_underscore c = c == byte "_" || is_hex c

abbrev pub hex_value : Chars → ℕ
hex_value digits = fold (λ value digit. value * 16 + digit_value digit) 0 digits

-- Holds if the text is empty, or is a digit followed by digits and underscores: `1F_600`, `1__`.
pub data AreDigits : Chars → Type 0 where
  none : AreDigits []
  some : {d : ℕ} {w : Chars}
      → is_hex d ≡ true
      → list_all is_digit_or_underscore w ≡ true
      → AreDigits (d ∷ w)

-- Holds if w is an escape without its backslash, when `next` follows it.
pub data IsEscapeBefore (next : Chars) : Element → Chars → Type 0 where
  -- ASCII_ESCAPE, BYTE_ESCAPE: `\0`, `\t`, `\n`, `\r`, `\\`
  nul : IsEscapeBefore next (Byte 0) (codes "0")
  tab : IsEscapeBefore next (Byte 9) (codes "t")
  newline : IsEscapeBefore next (Byte 10) (codes "n")
  carriage_return : IsEscapeBefore next (Byte 13) (codes "r")
  backslash : IsEscapeBefore next (Byte (byte "\\")) (codes "\\")
  -- QUOTE_ESCAPE, BYTE_ESCAPE: `\'`, `\"`
  single_quote : IsEscapeBefore next (Byte (byte "'")) (codes "'")
  double_quote : IsEscapeBefore next (Byte (byte "\"")) (codes "\"")
  -- ASCII_ESCAPE, BYTE_ESCAPE: `\x7F`
  of_byte : {h l : ℕ}
      → is_hex h ≡ true
      → is_hex l ≡ true
      → IsEscapeBefore next (Byte (digit_value h * 16 + digit_value l)) (byte "x" ∷ h ∷ l ∷ [])
  -- UNICODE_ESCAPE: `\u{1F_600}`
  of_number : {d : ℕ} {w : Chars}
      → AreDigits (d ∷ w)
      → length (filter is_hex (d ∷ w)) ≤ 6
      → IsEscapeBefore next (Unicode (hex_value (filter is_hex (d ∷ w))))
      (codes "u{" ++ d ∷ w ++ codes "}")
  -- Errors: a backslash at the end, and a backslash before any other character.
  lone : next ≡ [] → IsEscapeBefore next (Diagnostic LoneSlash) []
  invalid : {c : ℕ}
      → is_among (codes "0tnr\\'\"xu") c ≡ false
      → IsEscapeBefore next (Diagnostic InvalidEscape) (c ∷ [])
  -- `\x` and `\x7` at the end; `\xg`; `\x7g`
  no_digits : next ≡ [] → IsEscapeBefore next (Diagnostic TooShortHexEscape) (codes "x")
  one_digit : {h : ℕ}
      → next ≡ []
      → is_hex h ≡ true
      → IsEscapeBefore next (Diagnostic TooShortHexEscape) (byte "x" ∷ h ∷ [])
  bad_first : {h : ℕ}
      → is_hex h ≡ false
      → IsEscapeBefore next (Diagnostic InvalidCharInHexEscape) (byte "x" ∷ h ∷ [])
  bad_second : {h l : ℕ}
      → is_hex h ≡ true
      → is_hex l ≡ false
      → IsEscapeBefore next (Diagnostic InvalidCharInHexEscape) (byte "x" ∷ h ∷ l ∷ [])
  -- `\u` at the end; `\u1`
  no_more : next ≡ [] → IsEscapeBefore next (Diagnostic NoBraceInUnicodeEscape) (codes "u")
  no_brace : {c : ℕ}
      → (c == byte "{") ≡ false
      → IsEscapeBefore next (Diagnostic NoBraceInUnicodeEscape) (byte "u" ∷ c ∷ [])
  -- `\u{_`; `\u{}`
  underscore : IsEscapeBefore next (Diagnostic LeadingUnderscoreUnicodeEscape) (codes "u{_")
  empty : IsEscapeBefore next (Diagnostic EmptyUnicodeEscape) (codes "u{}")
  -- `\u{1` at the end; `\u{1g`; `\u{1234567}`
  unclosed : {w : Chars}
      → next ≡ []
      → AreDigits w
      → IsEscapeBefore next (Diagnostic UnclosedUnicodeEscape) (codes "u{" ++ w)
  bad_digit : {w : Chars} (c : ℕ)
      → AreDigits w
      → is_digit_or_underscore c ≡ false
      → (c == byte "}") ≡ false
      → IsEscapeBefore next (Diagnostic InvalidCharInUnicodeEscape) (codes "u{" ++ w ++ c ∷ [])
  too_many : {w : Chars}
      → AreDigits w
      → 6 < length (filter is_hex w)
      → IsEscapeBefore next (Diagnostic OverlongUnicodeEscape) (codes "u{" ++ w ++ codes "}")

-- ---- elements

-- Holds if w is an element, when `next` follows it. The characters of `special` must be escaped.
pub data IsElementBefore (special next : Chars) : Element → Chars → Type 0 where
  plain : {c : ℕ}
      → is_among (codes "\\\r" ++ special) c ≡ false
      → IsElementBefore special next (Plain c) (c ∷ [])
  escape : {element : Element} {w : Chars}
      → IsEscapeBefore next element w
      → IsElementBefore special next element (codes "\\" ++ w)
  unescaped : {c : ℕ}
      → is_among special c ≡ true
      → IsElementBefore special next (Diagnostic EscapeOnlyChar) (c ∷ [])
  bare : IsElementBefore special next (Diagnostic BareCarriageReturn) (codes "\r")

-- Relates an element of a raw string to its character. Each character is an element.
pub data IsRawElement : Element → ℕ → Type 0 where
  plain : {c : ℕ} → (c == byte "\r") ≡ false → IsRawElement (Plain c) c
  bare : IsRawElement (Diagnostic BareCarriageReturnInRawString) (byte "\r")

-- ---- between single quotes

-- An `Error` is an error or a warning with its byte range.
abbrev pub Error : Type 0
Error = Range ℕ × EscapeError

-- Returns the range of w, if it is at the start of a text.
abbrev pub front_range : Chars → Range ℕ
front_range w = record { start = 0; end = bytes w }

-- Relates the contents of a literal with single quotes to its value or its error. If the contents are one element with
-- a value (CHAR_LITERAL or BYTE_LITERAL without the quotes), that is the value of the literal. Otherwise there is one
-- error: there is no element, the first element has an error, or more text follows it.
pub data IsSingle {U : Type 0} (meaning : Element → Result U EscapeError) : Chars → Result U Error
    → Type 0 where
  unit : {element : Element} {w : Chars} {u : U}
      → IsElementBefore (codes "'\n\t") [] element w
      → meaning element ≡ Ok u
      → IsSingle meaning w (Ok u)
  nothing : IsSingle meaning [] (Err (front_range [], ZeroChars))
  wrong : {next : Chars} {element : Element} {w : Chars} {error : EscapeError}
      → IsElementBefore (codes "'\n\t") next element w
      → meaning element ≡ Err error
      → IsSingle meaning (w ++ next) (Err (front_range w, error))
  more : {c : ℕ} {next : Chars} {element : Element} {w : Chars} {u : U}
      → IsElementBefore (codes "'\n\t") (c ∷ next) element w
      → meaning element ≡ Ok u
      → IsSingle meaning (w ++ c ∷ next) (Err (front_range (w ++ c ∷ []), MoreThanOneChar))

-- ---- between double quotes

-- An `Item` is an element with its byte range.
abbrev pub Item : Type 0
Item = Range ℕ × Element

-- Returns the item of w, which starts at the offset `from`.
abbrev pub item : ℕ → Element → Chars → Item
item from element w = (record { start = from; end = from + bytes w }, element)

abbrev pub is_newline : ℕ → Bool
is_newline c = c == 10

-- Whether the character is whitespace that STRING_CONTINUE skips: a newline, carriage return, tab or space.
abbrev pub is_passed_over : ℕ → Bool
is_passed_over c = c == 10 || c == 13 || c == 9 || c == 32

-- Whether the next character is in the class. This is `false` at the end of the text.
abbrev pub next_is : (ℕ → Bool) → Chars → Bool
next_is p [] = false
next_is p (c ∷ s) = p c

-- Returns a warning if the skipped whitespace contains another newline. The warning covers all of the skipped text.
abbrev pub lines_warning : ℕ → Chars → List Item
lines_warning from space =
    if list_any is_newline space then item from (Diagnostic MultipleSkippedLinesWarning)
    (codes "\\\n" ++ space) ∷ [] else []

-- Returns a warning if other whitespace follows. The warning also covers the first character of that whitespace.
abbrev pub space_warning : ℕ → Chars → Chars → List Item
space_warning from space [] = []
space_warning from space (c ∷ next) =
    if is_whitespace c then item from (Diagnostic UnskippedWhitespaceWarning)
    (codes "\\\n" ++ space ++ c ∷ []) ∷ [] else []

-- Relates the contents of a string, which start at the offset `from`, to their items. The contents are STRING_LITERAL,
-- BYTE_STRING_LITERAL or C_STRING_LITERAL without the quotes, or a raw string without its quotes.
pub data AreItems : (raw : Bool) → (from : ℕ) → Chars → List Item → Type 0 where
  nothing : {raw : Bool} {from : ℕ} → AreItems raw from [] []
  -- Any element except a backslash before a newline.
  element : {from : ℕ} {next : Chars} {element : Element} {w : Chars} {items : List Item}
      → IsElementBefore (codes "\"") next element w
      → (w ≡ codes "\\\n" → ⊥)
      → AreItems false (from + bytes w) next items
      → AreItems false from (w ++ next) (item from element w ∷ items)
  -- STRING_CONTINUE
  line_end : {from : ℕ} {next : Chars} {items : List Item} (space : Chars)
      → list_all is_passed_over space ≡ true
      → next_is is_passed_over next ≡ false
      → AreItems false (from + bytes (codes "\\\n" ++ space)) next items
      → AreItems false from (codes "\\\n" ++ space ++ next)
      (lines_warning from space ++ space_warning from space next ++ items)
  raw_element : {from c : ℕ} {next : Chars} {element : Element} {items : List Item}
      → IsRawElement element c
      → AreItems true (from + bytes (c ∷ [])) next items
      → AreItems true from (c ∷ next) (item from element (c ∷ []) ∷ items)

-- ---- only one

-- An answer, with a proof that exactly this answer is allowed if the premise holds.
pub record TheOnly {A : Type 0} (premise : Type 0) (Allows : A → Type 0) : Type 0 where
  pub answer : A
  pub only : premise → (other : A) → Allows other ↔ (other ≡ answer)
