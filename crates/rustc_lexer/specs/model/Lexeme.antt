-- Model of the token at the start of a text.
use Rattle.rustc_lexer.specs.declared.lexemes.raw.RawPrefix.TheVariants.{R, Br, Cr}
use Rattle.rustc_lexer.specs.declared.lexemes.raw.RawPrefix.{RawPrefix}
use Rattle.rustc_lexer.specs.model.Raw.{raw_literal}
use Rattle.std.specs.Prelude.{ℕ, suc, ◌==◌, if◌then◌else◌, List, [], ◌∷◌, Bool, codes, ◌&&◌, drop}
use Rattle.std.specs.{Char.{is_ascii_digit}, Str.{byte}}
use Rattle.rustc_lexer.specs.declared.lexemes.family.Family.{Family}
use Rattle.rustc_lexer.specs.declared.lexemes.family.Family.TheVariants.{Slash, Space, Word, Number, Quote, Str, Emoji}
use Rattle.rustc_lexer.specs.declared.lexemes.family.Family.TheVariants.{Hash, Symbol}
use Rattle.rustc_lexer.specs.{Token, TokenKind, Whitespace, RawIdent, ForcedKeywordIdent, Eof}
use Rattle.rustc_lexer.specs.Classes.{is_among, is_whitespace, is_id_start}
use Rattle.rustc_lexer.specs.model.Comment.{slash}
use Rattle.rustc_lexer.specs.Tables.{is_emoji}
use Rattle.rustc_lexer.specs.model.Hash.{hash}
use Rattle.rustc_lexer.specs.model.Ident.{ident_or_unknown_prefix, invalid_ident, hash_ident_or}
use Rattle.rustc_lexer.specs.model.Lifetime.{lifetime_or_char}
use Rattle.rustc_lexer.specs.model.Literal.{literal}
use Rattle.rustc_lexer.specs.model.Number.{number}
use Rattle.rustc_lexer.specs.model.Quoted.{byte_body, byte_str_body, c_str_body, str_body}
use Rattle.rustc_lexer.specs.model.Scan.{after, begins, gives, run, token_by, next_is}
pub use Rattle.rustc_lexer.specs.Tables.{symbols, kind_among, symbol_kind}

-- Lexes the text after the first character of whitespace.
abbrev pub whitespace : List ℕ → TokenKind × ℕ
whitespace s = run Whitespace is_whitespace s

-- Whether the character, after the letters of a prefix, opens a raw string: a hash or a quote.
abbrev pub opens_raw : ℕ → Bool
opens_raw c = is_among (codes "#\"") c

-- Lexes the text after an `r` that does not start a raw identifier.
abbrev pub raw_or_ident : List ℕ → TokenKind × ℕ
raw_or_ident s = if next_is opens_raw s then raw_literal R s else ident_or_unknown_prefix s

-- Lexes the text after an `r`.
abbrev pub letter_r : List ℕ → TokenKind × ℕ
letter_r s = hash_ident_or RawIdent raw_or_ident s

-- Lexes the text after a `k`.
abbrev pub letter_k : List ℕ → TokenKind × ℕ
letter_k s = hash_ident_or ForcedKeywordIdent ident_or_unknown_prefix s

-- Whether the text starts with an `r` and a character that opens a raw string after it.
abbrev pub begins_raw : List ℕ → Bool
begins_raw s = begins (codes "r") s && next_is opens_raw (drop 1 s)

-- Lexes the text after a `b` or a `c`: a raw string if an `r` and its opening follow, otherwise a word.
abbrev pub raw_past_or_ident : RawPrefix → List ℕ → TokenKind × ℕ
raw_past_or_ident prefix s =
    if begins_raw s then after 1 (raw_literal prefix) s else ident_or_unknown_prefix s

-- Lexes the text after a `b`.
abbrev pub letter_b : List ℕ → TokenKind × ℕ
letter_b s =
    if begins (codes "'") s then literal (after 1 byte_body) s
    else (if begins (codes "\"") s then literal (after 1 byte_str_body) s
    else raw_past_or_ident Br s)

-- Lexes the text after a `c`.
abbrev pub letter_c : List ℕ → TokenKind × ℕ
letter_c s =
    if begins (codes "\"") s then literal (after 1 c_str_body) s else raw_past_or_ident Cr s

-- Lexes the text after a character that starts an identifier. Some letters can also start other tokens.
abbrev pub word : ℕ → List ℕ → TokenKind × ℕ
word c =
    if c == byte "r" then letter_r
    else (if c == byte "k" then letter_k
    else (if c == byte "b" then letter_b
    else (if c == byte "c" then letter_c else ident_or_unknown_prefix)))

-- Lexes a token of one character.
abbrev pub symbol : ℕ → List ℕ → TokenKind × ℕ
symbol c s = gives (symbol_kind c) s

-- Returns the family of a first character.
abbrev pub family_of : ℕ → Family
family_of c =
    if c == byte "/" then Slash
    else (if is_whitespace c then Space
    else (if is_id_start c then Word
    else (if is_ascii_digit c then Number
    else (if c == byte "'" then Quote
    else (if c == byte "\"" then Str
    else (if is_emoji c then Emoji
    else (if c == byte "#" then Hash
    else Symbol)))))))

-- Lexes the text after the first character, given its family.
abbrev pub read_by : Family → ℕ → List ℕ → TokenKind × ℕ
read_by Slash c s = slash s
read_by Space c s = whitespace s
read_by Word c s = word c s
read_by Number c s = number c s
read_by Quote c s = lifetime_or_char s
read_by Str c s = literal str_body s
read_by Emoji c s = invalid_ident s
read_by Hash c s = hash s
read_by Symbol c s = symbol c s

-- Lexes the text after the first character, which determines the family.
unfoldable pub past_first : ℕ → List ℕ → TokenKind × ℕ
past_first c s = read_by (family_of c) c s

-- Lexes the token at the start of the characters. Returns its kind, and its length in characters.
abbrev pub lexeme : List ℕ → TokenKind × ℕ
lexeme [] = (Eof, 0)
lexeme (c ∷ s) = ((past_first c s).0, suc (past_first c s).1)

-- Returns the first token of a text.
unfoldable pub first_token : List ℕ → Token
first_token text = token_by lexeme text
