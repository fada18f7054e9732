-- Numbers and names of token kinds, classes of kinds, and the messages of errors in raw strings.
use Rattle.std.specs.Prelude.{ℕ, Bool, true, false, List, Some, None, codes, ◌++◌, decimal, nat_eq, if◌then◌else◌}
use Rattle.rustc_lexer.specs.{LiteralKind, RawStrError, InvalidStarter, NoTerminator, TooManyDelimiters, TokenKind, Int, Float, Char, Byte, Str, ByteStr, CStr, RawStr, RawByteStr, RawCStr, LineComment, BlockComment, Whitespace, Frontmatter, Ident, InvalidIdent, RawIdent, ForcedKeywordIdent, UnknownPrefix, UnknownPrefixLifetime, RawLifetime, GuardedStrPrefix, Literal, Lifetime, Semi, Comma, Dot, OpenParen, CloseParen, OpenBrace, CloseBrace, OpenBracket, CloseBracket, At, Pound, Tilde, Question, Colon, Dollar, Eq, Bang, Lt, Gt, Minus, And, Or, Plus, Star, Slash, Caret, Percent, Unknown, Eof}

-- Returns the number of a kind, for use in other languages, and the name of its variant. A number never changes: a new
-- kind gets a new number, and no kind has the number 0.
unfoldable pub kind_entry : TokenKind → ℕ × List ℕ
kind_entry (LineComment doc_style) = (1, codes "LineComment")
kind_entry (BlockComment doc_style terminated) = (2, codes "BlockComment")
kind_entry Whitespace = (3, codes "Whitespace")
kind_entry (Frontmatter has_invalid_preceding_whitespace invalid_infostring) =
    (4, codes "Frontmatter")
kind_entry Ident = (5, codes "Ident")
kind_entry InvalidIdent = (6, codes "InvalidIdent")
kind_entry RawIdent = (7, codes "RawIdent")
kind_entry ForcedKeywordIdent = (8, codes "ForcedKeywordIdent")
kind_entry UnknownPrefix = (9, codes "UnknownPrefix")
kind_entry UnknownPrefixLifetime = (10, codes "UnknownPrefixLifetime")
kind_entry RawLifetime = (11, codes "RawLifetime")
kind_entry GuardedStrPrefix = (12, codes "GuardedStrPrefix")
kind_entry (Literal kind suffix_start) = (13, codes "Literal")
kind_entry (Lifetime starts_with_number) = (14, codes "Lifetime")
kind_entry Semi = (15, codes "Semi")
kind_entry Comma = (16, codes "Comma")
kind_entry Dot = (17, codes "Dot")
kind_entry OpenParen = (18, codes "OpenParen")
kind_entry CloseParen = (19, codes "CloseParen")
kind_entry OpenBrace = (20, codes "OpenBrace")
kind_entry CloseBrace = (21, codes "CloseBrace")
kind_entry OpenBracket = (22, codes "OpenBracket")
kind_entry CloseBracket = (23, codes "CloseBracket")
kind_entry At = (24, codes "At")
kind_entry Pound = (25, codes "Pound")
kind_entry Tilde = (26, codes "Tilde")
kind_entry Question = (27, codes "Question")
kind_entry Colon = (28, codes "Colon")
kind_entry Dollar = (29, codes "Dollar")
kind_entry Eq = (30, codes "Eq")
kind_entry Bang = (31, codes "Bang")
kind_entry Lt = (32, codes "Lt")
kind_entry Gt = (33, codes "Gt")
kind_entry Minus = (34, codes "Minus")
kind_entry And = (35, codes "And")
kind_entry Or = (36, codes "Or")
kind_entry Plus = (37, codes "Plus")
kind_entry Star = (38, codes "Star")
kind_entry Slash = (39, codes "Slash")
kind_entry Caret = (40, codes "Caret")
kind_entry Percent = (41, codes "Percent")
kind_entry Unknown = (42, codes "Unknown")
kind_entry Eof = (43, codes "Eof")

-- Whether the kind has fields.
unfoldable pub has_fields : TokenKind → Bool
has_fields (LineComment doc_style) = true
has_fields (BlockComment doc_style terminated) = true
has_fields (Frontmatter has_invalid_preceding_whitespace invalid_infostring) = true
has_fields (Literal kind suffix_start) = true
has_fields (Lifetime starts_with_number) = true
has_fields kind = false

-- Whether a parser skips the kind: whitespace, and comments that are not doc comments.
abbrev pub is_trivia : TokenKind → Bool
is_trivia Whitespace = true
is_trivia (LineComment None) = true
is_trivia (BlockComment None terminated) = true
is_trivia kind = false

-- Whether the kind is an opening delimiter.
abbrev pub opens_group : TokenKind → Bool
opens_group OpenParen = true
opens_group OpenBracket = true
opens_group OpenBrace = true
opens_group kind = false

-- Whether the kind is a closing delimiter.
abbrev pub closes_group : TokenKind → Bool
closes_group CloseParen = true
closes_group CloseBracket = true
closes_group CloseBrace = true
closes_group kind = false

-- Returns the number of a kind of literal, and the name of its variant.
unfoldable pub literal_entry : LiteralKind → ℕ × List ℕ
literal_entry (Int base empty_int) = (1, codes "Int")
literal_entry (Float base empty_exponent) = (2, codes "Float")
literal_entry (Char terminated) = (3, codes "Char")
literal_entry (Byte terminated) = (4, codes "Byte")
literal_entry (Str terminated) = (5, codes "Str")
literal_entry (ByteStr terminated) = (6, codes "ByteStr")
literal_entry (CStr terminated) = (7, codes "CStr")
literal_entry (RawStr n_hashes) = (8, codes "RawStr")
literal_entry (RawByteStr n_hashes) = (9, codes "RawByteStr")
literal_entry (RawCStr n_hashes) = (10, codes "RawCStr")

-- Returns the message of an error in a raw string.
abbrev pub raw_str_text : RawStrError → List ℕ
raw_str_text (InvalidStarter bad_char) = codes "invalid raw string: missing opening quote"
raw_str_text (NoTerminator expected found None) =
    if nat_eq expected 0 then codes "unterminated raw string: missing closing quote"
    else codes "unterminated raw string: expected a closing quote and "
    ++ (decimal expected ++ codes " `#`")
raw_str_text (NoTerminator expected found (Some end)) =
    codes "unterminated raw string: expected "
    ++ (decimal expected
    ++ (codes " `#` after the closing quote, found "
    ++ (decimal found ++ (codes " at byte " ++ decimal end))))
raw_str_text (TooManyDelimiters found) =
    codes "raw string with "
    ++ (decimal found ++ codes " `#` on each side: at most 255 are allowed")
