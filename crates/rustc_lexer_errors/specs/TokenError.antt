-- The error of a malformed token, and its message.
use Rattle.std.specs.Prelude.{ℕ, ◌-◌, ◌==◌, Bool, true, false, ◌&&◌, not, nat_eq, nat_lt, if◌then◌else◌, List, ◌++◌}
use Rattle.std.specs.Prelude.{codes, decimal, drop, Option, Some, None, Result, Ok, Err}
use Rattle.std.specs.Option.{option_or}
use Rattle.std.specs.Str.{byte, chars, IsUtf8}
use Rattle.rustc_lexer.specs.declared.edition.Edition.{Edition}
use Rattle.rustc_lexer.specs.declared.edition.Edition.TheVariants.{E2015, E2018}
use Rattle.rustc_lexer.specs.declared.token.LiteralKind.{LiteralKind}
use Rattle.rustc_lexer.specs.declared.token.LiteralKind.TheVariants.{Int, Float, Char, Byte, Str, ByteStr, CStr, RawStr}
use Rattle.rustc_lexer.specs.declared.token.LiteralKind.TheVariants.{RawByteStr, RawCStr}
use Rattle.rustc_lexer.specs.declared.token.RawStrError.{RawStrError}
use Rattle.rustc_lexer.specs.declared.token.RawStrError.TheVariants.{InvalidStarter, NoTerminator, TooManyDelimiters}
use Rattle.rustc_lexer.specs.declared.token.TokenKind.{TokenKind}
use Rattle.rustc_lexer.specs.declared.token.TokenKind.TheVariants.{BlockComment, Frontmatter, InvalidIdent}
use Rattle.rustc_lexer.specs.declared.token.TokenKind.TheVariants.{UnknownPrefix as UnknownPrefixToken}
use Rattle.rustc_lexer.specs.declared.token.TokenKind.TheVariants.{ForcedKeywordIdent}
use Rattle.rustc_lexer.specs.declared.token.TokenKind.TheVariants.{UnknownPrefixLifetime, GuardedStrPrefix, Literal}
use Rattle.rustc_lexer.specs.declared.token.TokenKind.TheVariants.{Lifetime, Unknown}
use Rattle.rustc_lexer.specs.Answers.{raw_check}
use Rattle.rustc_lexer.specs.Classes.{next_is}
use Rattle.rustc_lexer_errors.specs.declared.errors.TokenError.{TokenError}
use Rattle.rustc_lexer_errors.specs.declared.errors.TokenError.TheVariants.{UnterminatedBlockComment}
use Rattle.rustc_lexer_errors.specs.declared.errors.TokenError.TheVariants.{WhitespaceBeforeFrontmatter}
use Rattle.rustc_lexer_errors.specs.declared.errors.TokenError.TheVariants.{InvalidInfostring, UnclosedFrontmatter}
use Rattle.rustc_lexer_errors.specs.declared.errors.TokenError.TheVariants.{WhitespaceBeforeFrontmatterClose}
use Rattle.rustc_lexer_errors.specs.declared.errors.TokenError.TheVariants.{FrontmatterCloseMismatch}
use Rattle.rustc_lexer_errors.specs.declared.errors.TokenError.TheVariants.{ExtraAfterFrontmatterClose, InvalidName}
use Rattle.rustc_lexer_errors.specs.declared.errors.TokenError.TheVariants.{UnknownPrefix}
use Rattle.rustc_lexer_errors.specs.declared.errors.TokenError.TheVariants.{UnknownLifetimePrefix, GuardedString}
use Rattle.rustc_lexer_errors.specs.declared.errors.TokenError.TheVariants.{InvalidLifetime}
use Rattle.rustc_lexer_errors.specs.declared.errors.TokenError.TheVariants.{UnknownCharacter, EmptyNumber}
use Rattle.rustc_lexer_errors.specs.declared.errors.TokenError.TheVariants.{EmptyExponent, UnterminatedChar}
use Rattle.rustc_lexer_errors.specs.declared.errors.TokenError.TheVariants.{UnterminatedByte, UnterminatedString}
use Rattle.rustc_lexer_errors.specs.declared.errors.TokenError.TheVariants.{InvalidRawStarter}
use Rattle.rustc_lexer_errors.specs.declared.errors.TokenError.TheVariants.{UnterminatedRawString, TooFewHashes}
use Rattle.rustc_lexer_errors.specs.declared.errors.TokenError.TheVariants.{TooManyHashes, InLiteral}
use Rattle.rustc_lexer_errors.specs.declared.errors.TokenError.TheVariants.{InvalidDigit, FloatOfBase, RawKeyword}
use Rattle.rustc_lexer_errors.specs.declared.errors.TokenError.TheVariants.{UnderscoreSuffix}
use Rattle.rustc_lexer_errors.specs.declared.errors.TokenError.TheVariants.{BareCarriageReturnInDocComment}
use Rattle.rustc_lexer_errors.specs.declared.errors.TokenError.TheVariants.{BareCarriageReturnInFrontmatter}
use Rattle.rustc_lexer_errors.specs.declared.errors.TokenError.TheVariants.{TooManyDashes}
use Rattle.rustc_lexer_errors.specs.declared.errors.TokenError.TheVariants.{TextDirectionCodepoint}
use Rattle.rustc_lexer_errors.specs.Frontmatter.{IsFrontmatterError, Reading}
use Rattle.rustc_lexer_errors.specs.laws.Frontmatter.{the_error}
use Rattle.rustc_lexer_errors.specs.TextError.{text_error}
use Rattle.rustc_literal_escaper.specs.Grammar.{TheOnly}
use Rattle.rustc_literal_escaper.specs.Numbers.{error_message}

-- Returns the error of a raw string for the reason why it is invalid.
abbrev pub raw_str_error : RawStrError → TokenError
raw_str_error (InvalidStarter bad_char) = InvalidRawStarter
raw_str_error (NoTerminator expected found None) = UnterminatedRawString expected
raw_str_error (NoTerminator expected found (Some end)) = TooFewHashes expected found end
raw_str_error (TooManyDelimiters found) = TooManyHashes found

abbrev pub raw_check_error : Result (Unit {0}) RawStrError → Option TokenError
raw_check_error (Ok done) = None
raw_check_error (Err error) = Some (raw_str_error error)

abbrev pub is_r : ℕ → Bool
is_r c = c == byte "r"

-- Returns the error of a raw string whose prefix has `prefix_len` characters.
abbrev pub raw_error : List ℕ → ℕ → Option TokenError
raw_error text prefix_len =
    if nat_lt 0 prefix_len && next_is is_r (drop (prefix_len - 1) (chars text))
    then raw_check_error (raw_check text prefix_len)
    else None

abbrev pub literal_error : LiteralKind → List ℕ → Option TokenError
literal_error (Int base true) text = Some EmptyNumber
literal_error (Float base true) text = Some EmptyExponent
literal_error (Char false) text = Some UnterminatedChar
literal_error (Byte false) text = Some UnterminatedByte
literal_error (Str false) text = Some UnterminatedString
literal_error (ByteStr false) text = Some UnterminatedString
literal_error (CStr false) text = Some UnterminatedString
literal_error (RawStr None) text = raw_error text 1
literal_error (RawByteStr None) text = raw_error text 2
literal_error (RawCStr None) text = raw_error text 2
literal_error kind text = None

-- Returns the error that the kind of a token implies in an edition, if it is not a frontmatter. For raw strings, the
-- text decides which error it is. Before 2021, `k#a` is an identifier, `#` and an identifier, and has no error.
abbrev pub kind_error : TokenKind → List ℕ → Edition → Option TokenError
kind_error (BlockComment doc_style false) text edition = Some UnterminatedBlockComment
kind_error InvalidIdent text edition = Some InvalidName
kind_error UnknownPrefixToken text edition = Some UnknownPrefix
kind_error ForcedKeywordIdent text E2015 = None
kind_error ForcedKeywordIdent text E2018 = None
kind_error ForcedKeywordIdent text edition = Some UnknownPrefix
kind_error UnknownPrefixLifetime text edition = Some UnknownLifetimePrefix
kind_error GuardedStrPrefix text edition = Some GuardedString
kind_error (Lifetime true) text edition = Some InvalidLifetime
kind_error Unknown text edition = Some UnknownCharacter
kind_error (Literal kind suffix_start) text edition = literal_error kind text
kind_error kind text edition = None

-- Returns the error of a text that is a frontmatter whose token has these flags. It comes from a value whose type states
-- that exactly this error is allowed.
abbrev pub error_of_frontmatter : Bool → Bool → List ℕ → Option TokenError
error_of_frontmatter space bad_label text =
    let the : TheOnly (IsUtf8 text × Reading space bad_label text) (IsFrontmatterError space bad_label text) =
    the_error space bad_label text in
    the.answer

-- Returns the error of a token in an edition. Except for frontmatters, an error that its kind implies comes before an
-- error in its text.
abbrev pub token_error : TokenKind → List ℕ → Edition → Option TokenError
token_error (Frontmatter has_invalid_preceding_whitespace invalid_infostring) text edition =
    error_of_frontmatter has_invalid_preceding_whitespace invalid_infostring text
token_error kind text edition = option_or (kind_error kind text edition) (text_error kind text)

-- Returns the number of an error in the C ABI. It never changes: a new error gets a new number.
abbrev pub error_number : TokenError → ℕ
error_number UnterminatedBlockComment = 1
error_number WhitespaceBeforeFrontmatter = 2
error_number InvalidInfostring = 3
error_number UnclosedFrontmatter = 4
error_number WhitespaceBeforeFrontmatterClose = 5
error_number (FrontmatterCloseMismatch opening closing) = 6
error_number ExtraAfterFrontmatterClose = 7
error_number InvalidName = 8
error_number UnknownPrefix = 9
error_number UnknownLifetimePrefix = 10
error_number GuardedString = 11
error_number InvalidLifetime = 12
error_number UnknownCharacter = 13
error_number EmptyNumber = 14
error_number EmptyExponent = 15
error_number UnterminatedChar = 16
error_number UnterminatedByte = 17
error_number UnterminatedString = 18
error_number InvalidRawStarter = 19
error_number (UnterminatedRawString expected) = 20
error_number (TooFewHashes expected found end) = 21
error_number (TooManyHashes found) = 22
error_number (InLiteral error) = 23
error_number InvalidDigit = 24
error_number FloatOfBase = 25
error_number RawKeyword = 26
error_number UnderscoreSuffix = 27
error_number BareCarriageReturnInDocComment = 28
error_number BareCarriageReturnInFrontmatter = 29
error_number (TooManyDashes found) = 30
error_number TextDirectionCodepoint = 31

-- Returns the message of an error.
unfoldable pub message : TokenError → List ℕ
message UnterminatedBlockComment = codes "unterminated block comment"
message WhitespaceBeforeFrontmatter = codes "whitespace before the opening fence of a frontmatter"
message InvalidInfostring = codes "invalid infostring: expected at most one name after the opening fence"
message UnclosedFrontmatter = codes "unclosed frontmatter: missing closing fence"
message WhitespaceBeforeFrontmatterClose = codes "whitespace before the closing fence of a frontmatter"
message ExtraAfterFrontmatterClose = codes "unexpected text after the closing fence of a frontmatter"
message InvalidName = codes "invalid identifier: contains an emoji"
message UnknownPrefix = codes "unknown prefix before a quote or `#`"
message UnknownLifetimePrefix = codes "unknown lifetime prefix before `#`"
message GuardedString = codes "reserved syntax: guarded string"
message InvalidLifetime = codes "invalid lifetime: starts with a digit or contains an emoji"
message UnknownCharacter = codes "unexpected character: no token starts with it"
message EmptyNumber = codes "number has no digits"
message EmptyExponent = codes "exponent has no digits"
message UnterminatedChar = codes "unterminated character literal: missing closing quote"
message UnterminatedByte = codes "unterminated byte literal: missing closing quote"
message UnterminatedString = codes "unterminated string: missing closing quote"
message InvalidRawStarter = codes "invalid raw string: missing opening quote"
message InvalidDigit = codes "invalid digit in a binary or octal number"
message FloatOfBase = codes "invalid float: only a decimal number can have a point or an exponent"
message RawKeyword = codes "invalid raw identifier or lifetime: this name cannot be raw"
message UnderscoreSuffix = codes "invalid literal suffix `_`"
message BareCarriageReturnInDocComment = codes "bare CR in a doc comment: a CR must be part of a CRLF"
message BareCarriageReturnInFrontmatter = codes "bare CR in a frontmatter: a CR must be part of a CRLF"
message TextDirectionCodepoint = codes "bidirectional control character: code may be displayed in a different order"
message (FrontmatterCloseMismatch opening closing) =
    codes "frontmatter opens with "
    ++ (decimal opening ++ (codes " dashes but closes with " ++ decimal closing))
message (UnterminatedRawString expected) =
    if nat_eq expected 0 then codes "unterminated raw string: missing closing quote"
    else codes "unterminated raw string: expected a closing quote and "
    ++ (decimal expected ++ codes " `#`")
message (TooFewHashes expected found end) =
    codes "unterminated raw string: expected "
    ++ (decimal expected
    ++ (codes " `#` after the closing quote, found "
    ++ (decimal found ++ (codes " at byte " ++ decimal end))))
message (TooManyHashes found) =
    codes "raw string with "
    ++ (decimal found ++ codes " `#` on each side: at most 255 are allowed")
message (TooManyDashes found) =
    codes "frontmatter fence with "
    ++ (decimal found ++ codes " dashes: at most 255 are allowed")
message (InLiteral error) = error_message error
