-- The errors in the text of a token that its kind does not imply: errors that rustc finds when it converts the lexer's
-- tokens, and its lints `text_direction_codepoint_in_comment` and `text_direction_codepoint_in_literal`.
use Rattle.std.specs.Prelude.{ℕ, ◌==◌, Bool, false, ◌&&◌, ◌||◌, not, nat_eq, nat_le, nat_lt, if◌then◌else◌, List, []}
use Rattle.std.specs.Prelude.{◌∷◌, codes, drop, get_or, length, Option, Some, None}
use Rattle.std.specs.List.{between, list_any, prefix_len}
use Rattle.std.specs.Option.{option_or}
use Rattle.std.specs.Str.{byte, bytes_eq, chars}
use Rattle.rustc_lexer.specs.declared.token.Base.TheVariants.{Binary, Octal, Decimal}
use Rattle.rustc_lexer.specs.declared.token.DocStyle.{DocStyle}
use Rattle.rustc_lexer.specs.declared.token.LiteralKind.{LiteralKind}
use Rattle.rustc_lexer.specs.declared.token.LiteralKind.TheVariants.{Int, Float, Byte, ByteStr, RawByteStr}
use Rattle.rustc_lexer.specs.declared.token.TokenKind.{TokenKind}
use Rattle.rustc_lexer.specs.declared.token.TokenKind.TheVariants.{LineComment, BlockComment, RawIdent}
use Rattle.rustc_lexer.specs.declared.token.TokenKind.TheVariants.{RawLifetime, Literal}
use Rattle.rustc_lexer_errors.specs.declared.errors.TokenError.{TokenError}
use Rattle.rustc_lexer_errors.specs.declared.errors.TokenError.TheVariants.{InvalidDigit, FloatOfBase, RawKeyword}
use Rattle.rustc_lexer_errors.specs.declared.errors.TokenError.TheVariants.{UnderscoreSuffix}
use Rattle.rustc_lexer_errors.specs.declared.errors.TokenError.TheVariants.{BareCarriageReturnInDocComment}
use Rattle.rustc_lexer_errors.specs.declared.errors.TokenError.TheVariants.{BareCarriageReturnInFrontmatter}
use Rattle.rustc_lexer_errors.specs.declared.errors.TokenError.TheVariants.{TooManyDashes}
use Rattle.rustc_lexer_errors.specs.declared.errors.TokenError.TheVariants.{TextDirectionCodepoint}

-- Whether the text starts with a byte other than a newline.
abbrev pub goes_on : List ℕ → Bool
goes_on [] = false
goes_on (b ∷ bs) = not (b == byte "\n")

-- Whether the text contains a bare carriage return, which is followed by a byte other than a newline. A carriage return
-- at the end of a token does not count, since a newline can follow the token.
abbrev pub has_bare_return : List ℕ → Bool
has_bare_return [] = false
has_bare_return (b ∷ bs) = b == byte "\r" && goes_on bs || has_bare_return bs

-- Whether the character is an explicit formatting character of the Unicode bidirectional algorithm (UAX #9): an
-- embedding, an override, an isolate, or a terminator of these.
abbrev pub turns_direction : ℕ → Bool
turns_direction c =
    nat_le 0x202a c && nat_le c 0x202e || nat_le 0x2066 c && nat_le c 0x2069

abbrev pub direction_error : List ℕ → Option TokenError
direction_error text = if list_any turns_direction (chars text) then Some TextDirectionCodepoint else None

abbrev pub comment_error : Option DocStyle → List ℕ → Option TokenError
comment_error None text = direction_error text
comment_error (Some style) text =
    if has_bare_return text then Some BareCarriageReturnInDocComment else direction_error text

abbrev pub is_of : List ℕ → ℕ → Bool
is_of these b = list_any (λ d. d == b) these

-- Returns how many dashes the text starts with.
abbrev pub dashes : List ℕ → ℕ
dashes text = prefix_len (is_of (codes "-")) text

-- Returns the error in the text of a frontmatter.
abbrev pub frontmatter_error : List ℕ → Option TokenError
frontmatter_error text =
    if has_bare_return text then Some BareCarriageReturnInFrontmatter
    else if nat_lt 255 (dashes text) then Some (TooManyDashes (dashes text))
    else None

-- The raw identifiers and raw lifetimes that are not allowed.
abbrev pub NEVER_RAW : List (List ℕ)
NEVER_RAW =
    codes "r#self" ∷ codes "r#Self" ∷ codes "r#super" ∷ codes "r#crate" ∷ codes "r#_"
    ∷ codes "'r#self" ∷ codes "'r#Self" ∷ codes "'r#super" ∷ codes "'r#crate" ∷ codes "'r#_" ∷ []

abbrev pub raw_name_error : List ℕ → Option TokenError
raw_name_error text =
    if list_any (λ word. bytes_eq word text) NEVER_RAW then Some RawKeyword else None

-- Returns the error of the digits of a number whose base allows only `these` bytes, underscores included.
abbrev pub digit_error : List ℕ → List ℕ → Option TokenError
digit_error these digits =
    if nat_eq (prefix_len (is_of these) digits) (length digits) then None else Some InvalidDigit

abbrev pub suffix_error : List ℕ → Option TokenError
suffix_error suffix =
    if nat_eq (length suffix) 1 && get_or suffix 0 0 == byte "_" then Some UnderscoreSuffix else None

-- Returns the error in the text of a literal whose suffix starts at the offset `suffix_start`. Bytes and byte strings
-- are not searched for bidirectional characters, since the escaper reports each non-ASCII character in them.
abbrev pub literal_text_error : LiteralKind → ℕ → List ℕ → Option TokenError
literal_text_error (Int Binary empty_int) suffix_start text =
    digit_error (codes "01_") (between 2 suffix_start text)
literal_text_error (Int Octal empty_int) suffix_start text =
    digit_error (codes "01234567_") (between 2 suffix_start text)
literal_text_error (Int base empty_int) suffix_start text = None
literal_text_error (Float Decimal empty_exponent) suffix_start text = None
literal_text_error (Float base empty_exponent) suffix_start text = Some FloatOfBase
literal_text_error (Byte terminated) suffix_start text = suffix_error (drop suffix_start text)
literal_text_error (ByteStr terminated) suffix_start text = suffix_error (drop suffix_start text)
literal_text_error (RawByteStr n_hashes) suffix_start text = suffix_error (drop suffix_start text)
literal_text_error kind suffix_start text =
    option_or (suffix_error (drop suffix_start text)) (direction_error text)

-- Returns the error in the text of a token that is not a frontmatter.
abbrev pub text_error : TokenKind → List ℕ → Option TokenError
text_error (LineComment doc_style) text = comment_error doc_style text
text_error (BlockComment doc_style terminated) text = comment_error doc_style text
text_error RawIdent text = raw_name_error text
text_error RawLifetime text = raw_name_error text
text_error (Literal kind suffix_start) text = literal_text_error kind suffix_start text
text_error kind text = None
