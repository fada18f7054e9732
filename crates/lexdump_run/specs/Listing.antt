-- The listing of tokens has a line for each token, with its start, its length, its kind and the fields of the kind.
use Rattle.std.specs.Prelude.{ℕ, ◌+◌, Bool, true, false, List, [], ◌∷◌, ◌++◌, codes, decimal, Option, Some, None}
use Rattle.rustc_lexer.specs.declared.token.Base.{Base}
use Rattle.rustc_lexer.specs.declared.token.Base.TheVariants.{Binary, Octal, Decimal, Hexadecimal}
use Rattle.rustc_lexer.specs.declared.token.DocStyle.{DocStyle}
use Rattle.rustc_lexer.specs.declared.token.DocStyle.TheVariants.{Outer, Inner}
use Rattle.rustc_lexer.specs.declared.token.LiteralKind.{LiteralKind}
use Rattle.rustc_lexer.specs.declared.token.LiteralKind.TheVariants.{Int, Float, Char, Byte, Str, ByteStr, CStr, RawStr}
use Rattle.rustc_lexer.specs.declared.token.LiteralKind.TheVariants.{RawByteStr, RawCStr}
use Rattle.rustc_lexer.specs.declared.token.Token.{Token}
use Rattle.rustc_lexer.specs.declared.token.TokenKind.{TokenKind}
use Rattle.rustc_lexer.specs.declared.token.TokenKind.TheVariants.{LineComment, BlockComment, Frontmatter, Literal, Lifetime}
use Rattle.rustc_lexer.specs.Kinds.{kind_entry, literal_entry}

abbrev pub bool_text : Bool → List ℕ
bool_text true = codes "true"
bool_text false = codes "false"

abbrev pub style_text : Option DocStyle → List ℕ
style_text None = codes "none"
style_text (Some Outer) = codes "outer"
style_text (Some Inner) = codes "inner"

abbrev pub hashes_text : Option ℕ → List ℕ
hashes_text None = codes "none"
hashes_text (Some n) = decimal n

abbrev pub base_text : Base → List ℕ
base_text Binary = codes "2"
base_text Octal = codes "8"
base_text Decimal = codes "10"
base_text Hexadecimal = codes "16"

-- A field is a space, its name, an equals sign and its value.
unfoldable pub field : List ℕ → List ℕ → List ℕ
field name value = 32 ∷ (name ++ 61 ∷ value)

-- The kind of a literal has these fields.
unfoldable pub literal_fields : LiteralKind → List ℕ
literal_fields (Int base empty_int) =
    field (codes "base") (base_text base) ++ field (codes "empty_int") (bool_text empty_int)
literal_fields (Float base empty_exponent) =
    field (codes "base") (base_text base)
    ++ field (codes "empty_exponent") (bool_text empty_exponent)
literal_fields (Char terminated) = field (codes "terminated") (bool_text terminated)
literal_fields (Byte terminated) = field (codes "terminated") (bool_text terminated)
literal_fields (Str terminated) = field (codes "terminated") (bool_text terminated)
literal_fields (ByteStr terminated) = field (codes "terminated") (bool_text terminated)
literal_fields (CStr terminated) = field (codes "terminated") (bool_text terminated)
literal_fields (RawStr n_hashes) = field (codes "n_hashes") (hashes_text n_hashes)
literal_fields (RawByteStr n_hashes) = field (codes "n_hashes") (hashes_text n_hashes)
literal_fields (RawCStr n_hashes) = field (codes "n_hashes") (hashes_text n_hashes)

-- A literal is listed with its kind, followed by the fields of that kind.
abbrev pub literal_text : LiteralKind → List ℕ
literal_text kind = field (codes "kind") (literal_entry kind).1 ++ literal_fields kind

-- A kind has these fields.
unfoldable pub fields_text : TokenKind → List ℕ
fields_text (LineComment doc_style) = field (codes "doc_style") (style_text doc_style)
fields_text (BlockComment doc_style terminated) =
    field (codes "doc_style") (style_text doc_style)
    ++ field (codes "terminated") (bool_text terminated)
fields_text (Frontmatter has_invalid_preceding_whitespace invalid_infostring) =
    field (codes "has_invalid_preceding_whitespace") (bool_text has_invalid_preceding_whitespace)
    ++ field (codes "invalid_infostring") (bool_text invalid_infostring)
fields_text (Literal kind suffix_start) =
    literal_text kind ++ field (codes "suffix_start") (decimal suffix_start)
fields_text (Lifetime starts_with_number) =
    field (codes "starts_with_number") (bool_text starts_with_number)
fields_text kind = []

-- The place of a token is its start and its length, each with a space after it.
abbrev pub place_text : ℕ → ℕ → List ℕ
place_text start len = decimal start ++ (codes " " ++ (decimal len ++ codes " "))

abbrev pub kind_name : TokenKind → List ℕ
kind_name kind = (kind_entry kind).1

unfoldable pub line_text : ℕ → Token → List ℕ
line_text start token =
    place_text start token.len ++ (kind_name token.kind ++ (fields_text token.kind ++ 10 ∷ []))

-- Tokens are listed in order, one line each, if the first of them starts at offset `start`.
abbrev pub listing_from : ℕ → List Token → List ℕ
listing_from start [] = []
listing_from start (t ∷ ts) = line_text start t ++ listing_from (start + t.len) ts

abbrev pub listing : List Token → List ℕ
listing tokens = listing_from 0 tokens

-- A shebang line is listed with its length, or with `none` if the text has none.
abbrev pub shebang_line : Option ℕ → List ℕ
shebang_line None = codes "none" ++ 10 ∷ []
shebang_line (Some length) = decimal length ++ 10 ∷ []
