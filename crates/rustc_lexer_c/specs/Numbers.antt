-- A token as C sees it: the number of its kind, and one byte for each field of the kind.
use Rattle.std.specs.Prelude.{ℕ, Bool, true, false, Option, Some, None}
use Rattle.rustc_lexer.specs.declared.token.Base.{Base}
use Rattle.rustc_lexer.specs.declared.token.Base.TheVariants.{Binary, Octal, Decimal, Hexadecimal}
use Rattle.rustc_lexer.specs.declared.token.DocStyle.{DocStyle}
use Rattle.rustc_lexer.specs.declared.token.DocStyle.TheVariants.{Outer, Inner}
use Rattle.rustc_lexer.specs.declared.token.LiteralKind.{LiteralKind}
use Rattle.rustc_lexer.specs.declared.token.LiteralKind.TheVariants.{Int, Float, Char, Byte, Str, ByteStr, CStr, RawStr}
use Rattle.rustc_lexer.specs.declared.token.LiteralKind.TheVariants.{RawByteStr, RawCStr}
use Rattle.rustc_lexer.specs.declared.token.Token.{Token}
use Rattle.rustc_lexer.specs.declared.token.TokenKind.{TokenKind}
use Rattle.rustc_lexer.specs.declared.token.TokenKind.TheVariants.{LineComment, BlockComment, Frontmatter, Literal, Lifetime}
use Rattle.rustc_lexer.specs.Kinds.{kind_entry, literal_entry}
use Rattle.rustc_lexer.specs.State.{suffix_start_of}
use Rattle.rustc_lexer_c.specs.declared.token.CToken.{CToken}

abbrev pub base_number : Base → ℕ
base_number Binary = 2
base_number Octal = 8
base_number Decimal = 10
base_number Hexadecimal = 16

abbrev pub style_number : Option DocStyle → ℕ
style_number None = 0
style_number (Some Outer) = 1
style_number (Some Inner) = 2

abbrev pub bool_number : Bool → ℕ
bool_number false = 0
bool_number true = 1

-- Returns 1 if there is a number, otherwise 0.
abbrev pub some_number : Option ℕ → ℕ
some_number None = 0
some_number (Some n) = 1

-- Returns the number, or 0 if there is none.
abbrev pub some_or_zero : Option ℕ → ℕ
some_or_zero None = 0
some_or_zero (Some n) = n

-- Returns the field of a kind of literal after its number. Each field has one byte, in order, and the hashes of a raw
-- string have two. A byte without a field is 0.
unfoldable pub literal_second : LiteralKind → ℕ
literal_second (Int base empty_int) = base_number base
literal_second (Float base empty_exponent) = base_number base
literal_second (Char terminated) = bool_number terminated
literal_second (Byte terminated) = bool_number terminated
literal_second (Str terminated) = bool_number terminated
literal_second (ByteStr terminated) = bool_number terminated
literal_second (CStr terminated) = bool_number terminated
literal_second (RawStr n_hashes) = some_number n_hashes
literal_second (RawByteStr n_hashes) = some_number n_hashes
literal_second (RawCStr n_hashes) = some_number n_hashes

unfoldable pub literal_third : LiteralKind → ℕ
literal_third (Int base empty_int) = bool_number empty_int
literal_third (Float base empty_exponent) = bool_number empty_exponent
literal_third (RawStr n_hashes) = some_or_zero n_hashes
literal_third (RawByteStr n_hashes) = some_or_zero n_hashes
literal_third (RawCStr n_hashes) = some_or_zero n_hashes
literal_third kind = 0

-- Returns the field of a kind of token, in the same way. The first byte of a literal is the number of the literal's
-- kind.
unfoldable pub first_of : TokenKind → ℕ
first_of (LineComment doc_style) = style_number doc_style
first_of (BlockComment doc_style terminated) = style_number doc_style
first_of (Frontmatter has_invalid_preceding_whitespace invalid_infostring) =
    bool_number has_invalid_preceding_whitespace
first_of (Literal kind suffix_start) = (literal_entry kind).0
first_of (Lifetime starts_with_number) = bool_number starts_with_number
first_of kind = 0

unfoldable pub second_of : TokenKind → ℕ
second_of (BlockComment doc_style terminated) = bool_number terminated
second_of (Frontmatter has_invalid_preceding_whitespace invalid_infostring) =
    bool_number invalid_infostring
second_of (Literal kind suffix_start) = literal_second kind
second_of kind = 0

unfoldable pub third_of : TokenKind → ℕ
third_of (Literal kind suffix_start) = literal_third kind
third_of kind = 0

-- Returns a token as numbers.
unfoldable pub token_numbers : Token → CToken
token_numbers token = record {
  kind = (kind_entry token.kind).0;
  first = first_of token.kind;
  second = second_of token.kind;
  third = third_of token.kind;
  suffix_start = suffix_start_of token.kind;
  len = token.len;
}
