-- The numbers of errors, for the C ABI and for tables, and their messages.
use Rattle.std.specs.Prelude.{ℕ, List, codes}
use Rattle.rustc_literal_escaper.specs.declared.error.EscapeError.{EscapeError}
use Rattle.rustc_literal_escaper.specs.declared.error.EscapeError.TheVariants.{ZeroChars, MoreThanOneChar, LoneSlash}
use Rattle.rustc_literal_escaper.specs.declared.error.EscapeError.TheVariants.{InvalidEscape, BareCarriageReturn}
use Rattle.rustc_literal_escaper.specs.declared.error.EscapeError.TheVariants.{BareCarriageReturnInRawString}
use Rattle.rustc_literal_escaper.specs.declared.error.EscapeError.TheVariants.{EscapeOnlyChar, TooShortHexEscape}
use Rattle.rustc_literal_escaper.specs.declared.error.EscapeError.TheVariants.{InvalidCharInHexEscape}
use Rattle.rustc_literal_escaper.specs.declared.error.EscapeError.TheVariants.{OutOfRangeHexEscape}
use Rattle.rustc_literal_escaper.specs.declared.error.EscapeError.TheVariants.{NoBraceInUnicodeEscape}
use Rattle.rustc_literal_escaper.specs.declared.error.EscapeError.TheVariants.{InvalidCharInUnicodeEscape}
use Rattle.rustc_literal_escaper.specs.declared.error.EscapeError.TheVariants.{EmptyUnicodeEscape}
use Rattle.rustc_literal_escaper.specs.declared.error.EscapeError.TheVariants.{UnclosedUnicodeEscape}
use Rattle.rustc_literal_escaper.specs.declared.error.EscapeError.TheVariants.{LeadingUnderscoreUnicodeEscape}
use Rattle.rustc_literal_escaper.specs.declared.error.EscapeError.TheVariants.{OverlongUnicodeEscape}
use Rattle.rustc_literal_escaper.specs.declared.error.EscapeError.TheVariants.{LoneSurrogateUnicodeEscape}
use Rattle.rustc_literal_escaper.specs.declared.error.EscapeError.TheVariants.{OutOfRangeUnicodeEscape}
use Rattle.rustc_literal_escaper.specs.declared.error.EscapeError.TheVariants.{UnicodeEscapeInByte, NonAsciiCharInByte}
use Rattle.rustc_literal_escaper.specs.declared.error.EscapeError.TheVariants.{NulInCStr, UnskippedWhitespaceWarning}
use Rattle.rustc_literal_escaper.specs.declared.error.EscapeError.TheVariants.{MultipleSkippedLinesWarning}

-- Returns the number of an error. Numbers start at 1 and never change: a new error gets a new number.
abbrev pub error_number : EscapeError → ℕ
error_number ZeroChars = 1
error_number MoreThanOneChar = 2
error_number LoneSlash = 3
error_number InvalidEscape = 4
error_number BareCarriageReturn = 5
error_number BareCarriageReturnInRawString = 6
error_number EscapeOnlyChar = 7
error_number TooShortHexEscape = 8
error_number InvalidCharInHexEscape = 9
error_number OutOfRangeHexEscape = 10
error_number NoBraceInUnicodeEscape = 11
error_number InvalidCharInUnicodeEscape = 12
error_number EmptyUnicodeEscape = 13
error_number UnclosedUnicodeEscape = 14
error_number LeadingUnderscoreUnicodeEscape = 15
error_number OverlongUnicodeEscape = 16
error_number LoneSurrogateUnicodeEscape = 17
error_number OutOfRangeUnicodeEscape = 18
error_number UnicodeEscapeInByte = 19
error_number NonAsciiCharInByte = 20
error_number NulInCStr = 21
error_number UnskippedWhitespaceWarning = 22
error_number MultipleSkippedLinesWarning = 23

-- Returns the message of an error.
abbrev pub error_message : EscapeError → List ℕ
error_message ZeroChars = codes "empty literal: expected one character"
error_message MoreThanOneChar = codes "too many characters: expected one between single quotes"
error_message LoneSlash = codes "incomplete escape: missing character after the backslash"
error_message InvalidEscape = codes "unknown escape: write a backslash as `\\\\`"
error_message BareCarriageReturn = codes "bare CR in a literal: write it as `\\r`"
error_message BareCarriageReturnInRawString = codes "bare CR in a raw string"
error_message EscapeOnlyChar = codes "unescaped character: write it as an escape"
error_message TooShortHexEscape = codes "incomplete escape: `\\x` needs two hexadecimal digits"
error_message InvalidCharInHexEscape = codes "invalid character in an escape: `\\x` needs two hexadecimal digits"
error_message OutOfRangeHexEscape = codes "escape out of range: the maximum is `\\x7f`"
error_message NoBraceInUnicodeEscape = codes "invalid escape: expected `{` after `\\u`"
error_message InvalidCharInUnicodeEscape =
    codes "invalid character in an escape: expected a hexadecimal digit, `_` or `}`"
error_message EmptyUnicodeEscape = codes "empty escape: `\\u` needs one to six hexadecimal digits"
error_message UnclosedUnicodeEscape = codes "incomplete escape: missing `}`"
error_message LeadingUnderscoreUnicodeEscape = codes "leading `_` in an escape: expected a hexadecimal digit"
error_message OverlongUnicodeEscape = codes "too many digits in an escape: `\\u` allows at most six"
error_message LoneSurrogateUnicodeEscape = codes "invalid code point: surrogates are not characters"
error_message OutOfRangeUnicodeEscape = codes "escape out of range: the maximum is `\\u{10ffff}`"
error_message UnicodeEscapeInByte = codes "`\\u` in a byte or byte string: use `\\x`"
error_message NonAsciiCharInByte = codes "non-ASCII character in a byte or byte string"
error_message NulInCStr = codes "NUL in a C string: it would end the string"
error_message UnskippedWhitespaceWarning =
    codes "unskipped whitespace: an escaped newline skips only spaces, tabs and line endings"
error_message MultipleSkippedLinesWarning = codes "skipped blank line: an escaped newline skips it too"
