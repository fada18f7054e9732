-- The value of an element, or its error, in each kind of literal.
use Rattle.std.specs.Prelude.{ℕ, ◌==◌, nat_lt, Bool, true, false, if◌then◌else◌, List, [], ◌∷◌, codes, Option, Some}
use Rattle.std.specs.Prelude.{None, Result, Ok, Err}
use Rattle.std.specs.Result.{result_err}
use Rattle.std.specs.declared.ops.Range.{Range}
use Rattle.rustc_literal_escaper.specs.declared.element.Element.{Element}
use Rattle.rustc_literal_escaper.specs.declared.element.Element.TheVariants.{Plain, Byte, Unicode, Diagnostic}
use Rattle.rustc_literal_escaper.specs.declared.error.EscapeError.{EscapeError}
use Rattle.rustc_literal_escaper.specs.declared.error.EscapeError.TheVariants.{OutOfRangeHexEscape}
use Rattle.rustc_literal_escaper.specs.declared.error.EscapeError.TheVariants.{LoneSurrogateUnicodeEscape}
use Rattle.rustc_literal_escaper.specs.declared.error.EscapeError.TheVariants.{OutOfRangeUnicodeEscape}
use Rattle.rustc_literal_escaper.specs.declared.error.EscapeError.TheVariants.{UnicodeEscapeInByte, NonAsciiCharInByte}
use Rattle.rustc_literal_escaper.specs.declared.error.EscapeError.TheVariants.{NulInCStr, UnskippedWhitespaceWarning}
use Rattle.rustc_literal_escaper.specs.declared.error.EscapeError.TheVariants.{MultipleSkippedLinesWarning}
use Rattle.rustc_literal_escaper.specs.declared.mode.Mode.{Mode}
use Rattle.rustc_literal_escaper.specs.declared.mode.Mode.TheVariants.{Char, Byte as ByteMode, Str, RawStr, ByteStr}
use Rattle.rustc_literal_escaper.specs.declared.mode.Mode.TheVariants.{RawByteStr, CStr, RawCStr}
use Rattle.rustc_literal_escaper.specs.declared.unit.MixedUnit.{MixedUnit}
use Rattle.rustc_literal_escaper.specs.declared.unit.MixedUnit.TheVariants.{Char as CharUnit, HighByte}
use Rattle.rustc_literal_escaper.specs.Grammar.{Error, Item}

-- Returns the character with this code point, or an error: U+D800 to U+DFFF are surrogates, and the maximum is
-- U+10FFFF.
abbrev pub scalar_of : ℕ → Result ℕ EscapeError
scalar_of n =
    if nat_lt n 0xD800 then Ok n else if nat_lt n 0xE000 then Err LoneSurrogateUnicodeEscape else if
    nat_lt n 0x11_0000 then Ok n else Err OutOfRangeUnicodeEscape

-- Returns the value of an element in a character literal, a string or a raw string. `\x` can only be an ASCII
-- character.
abbrev pub char_of : Element → Result ℕ EscapeError
char_of (Plain c) = Ok c
char_of (Byte b) = if nat_lt b 128 then Ok b else Err OutOfRangeHexEscape
char_of (Unicode n) = scalar_of n
char_of (Diagnostic error) = Err error

-- Returns the value of an element in a byte literal, a byte string or a raw byte string. Non-ASCII characters and `\u`
-- are errors.
abbrev pub byte_of : Element → Result ℕ EscapeError
byte_of (Plain c) = if nat_lt c 128 then Ok c else Err NonAsciiCharInByte
byte_of (Byte b) = Ok b
byte_of (Unicode n) = Err UnicodeEscapeInByte
byte_of (Diagnostic error) = Err error

-- Returns the unit of a byte. An ASCII byte is a character.
abbrev pub unit_of_byte : ℕ → MixedUnit
unit_of_byte b = if nat_lt b 128 then CharUnit b else HighByte b

-- Returns the unit, or an error if `n` is 0.
abbrev pub unit_or_nul : ℕ → MixedUnit → Result MixedUnit EscapeError
unit_or_nul n unit = if n == 0 then Err NulInCStr else Ok unit

abbrev pub unit_of_scalar : Result ℕ EscapeError → Result MixedUnit EscapeError
unit_of_scalar (Ok c) = unit_or_nul c (CharUnit c)
unit_of_scalar (Err error) = Err error

-- Returns the value of an element in a C string. Everything is allowed except U+0000 and the byte 0.
abbrev pub unit_of : Element → Result MixedUnit EscapeError
unit_of (Plain c) = unit_or_nul c (CharUnit c)
unit_of (Byte b) = unit_or_nul b (unit_of_byte b)
unit_of (Unicode n) = unit_of_scalar (scalar_of n)
unit_of (Diagnostic error) = Err error

abbrev pub not_nul : Result ℕ EscapeError → Result ℕ EscapeError
not_nul (Ok c) = if c == 0 then Err NulInCStr else Ok c
not_nul (Err error) = Err error

-- Returns the value of an element in a raw C string, which has no escapes.
abbrev pub raw_unit_of : Element → Result ℕ EscapeError
raw_unit_of element = not_nul (char_of element)

-- ---- the kinds of literal

-- Returns the prefix of a literal, without the `r` of a raw string.
abbrev pub prefix_of : Mode → List ℕ
prefix_of Char = codes ""
prefix_of Str = codes ""
prefix_of RawStr = codes ""
prefix_of ByteMode = codes "b"
prefix_of ByteStr = codes "b"
prefix_of RawByteStr = codes "b"
prefix_of CStr = codes "c"
prefix_of RawCStr = codes "c"

abbrev pub is_single : Mode → Bool
is_single Char = true
is_single ByteMode = true
is_single mode = false

abbrev pub is_raw : Mode → Bool
is_raw RawStr = true
is_raw RawByteStr = true
is_raw RawCStr = true
is_raw mode = false

-- ---- errors

-- Whether this is an error. The two warnings are not.
abbrev pub is_fatal : EscapeError → Bool
is_fatal UnskippedWhitespaceWarning = false
is_fatal MultipleSkippedLinesWarning = false
is_fatal error = true

-- Returns the error or warning of an element in a literal of this kind, or `None` if it has none.
abbrev pub error_of : Mode → Element → Option EscapeError
error_of Char element = result_err (char_of element)
error_of Str element = result_err (char_of element)
error_of RawStr element = result_err (char_of element)
error_of ByteMode element = result_err (byte_of element)
error_of ByteStr element = result_err (byte_of element)
error_of RawByteStr element = result_err (byte_of element)
error_of CStr element = result_err (unit_of element)
error_of RawCStr element = result_err (raw_unit_of element)

abbrev pub put : Range ℕ → Option EscapeError → List Error → List Error
put range None errors = errors
put range (Some error) errors = (range, error) ∷ errors

-- Returns the errors and warnings of a list of items, in order.
abbrev pub errors_in : Mode → List Item → List Error
errors_in mode [] = []
errors_in mode (item ∷ items) = put item.0 (error_of mode item.1) (errors_in mode items)
