-- The model of reading the kind of a token from its numbers. Each token has the class and the error of the kind that
-- `kind_of` returns for its numbers (proofs/ErrorLemmas.antt).
use Rattle.std.specs.Prelude.{ℕ, Bool, not, ◌||◌, nat_eq, if◌then◌else◌, Some, None}
use Rattle.rustc_lexer.specs.declared.token.Base.{Base}
use Rattle.rustc_lexer.specs.declared.token.Base.TheVariants.{Binary, Octal, Decimal, Hexadecimal}
use Rattle.rustc_lexer.specs.declared.token.DocStyle.TheVariants.{Outer}
use Rattle.rustc_lexer.specs.declared.token.LiteralKind.{LiteralKind}
use Rattle.rustc_lexer.specs.declared.token.LiteralKind.TheVariants.{Int, Float, Char, Byte, Str, ByteStr, RawStr}
use Rattle.rustc_lexer.specs.declared.token.LiteralKind.TheVariants.{RawByteStr, RawCStr}
use Rattle.rustc_lexer.specs.declared.token.TokenKind.{TokenKind}
use Rattle.rustc_lexer.specs.declared.token.TokenKind.TheVariants.{LineComment, BlockComment, Whitespace, Frontmatter}
use Rattle.rustc_lexer.specs.declared.token.TokenKind.TheVariants.{Ident, InvalidIdent, RawIdent, UnknownPrefix}
use Rattle.rustc_lexer.specs.declared.token.TokenKind.TheVariants.{ForcedKeywordIdent}
use Rattle.rustc_lexer.specs.declared.token.TokenKind.TheVariants.{UnknownPrefixLifetime, RawLifetime, GuardedStrPrefix}
use Rattle.rustc_lexer.specs.declared.token.TokenKind.TheVariants.{Literal, Lifetime, Unknown}
use Rattle.rustc_lexer_c.specs.declared.token.CToken.{CToken}

abbrev pub is_set : ℕ → Bool
is_set number = not (nat_eq number 0)

abbrev pub base_of : ℕ → Base
base_of number =
    if nat_eq number 2 then Binary
    else if nat_eq number 8 then Octal
    else if nat_eq number 10 then Decimal
    else Hexadecimal

-- Returns the kind of a literal or token with these numbers, as far as its class and its error depend on it. Kinds with
-- the same class and error share one representative; for plain kinds without an error it is `Whitespace`.
abbrev pub literal_of : CToken → LiteralKind
literal_of token =
    let n_hashes = if is_set token.second then Some token.third else None in
    if nat_eq token.first 1 then Int (base_of token.second) (is_set token.third)
    else if nat_eq token.first 2 then Float (base_of token.second) (is_set token.third)
    else if nat_eq token.first 3 then Char (is_set token.second)
    else if nat_eq token.first 4 then Byte (is_set token.second)
    else if nat_eq token.first 5 || nat_eq token.first 7 then Str (is_set token.second)
    else if nat_eq token.first 6 then ByteStr (is_set token.second)
    else if nat_eq token.first 8 then RawStr n_hashes
    else if nat_eq token.first 9 then RawByteStr n_hashes
    else RawCStr n_hashes

abbrev pub kind_of : CToken → TokenKind
kind_of token =
    let doc_style = if is_set token.first then Some Outer else None in
    if nat_eq token.kind 1 then LineComment doc_style
    else if nat_eq token.kind 2 then BlockComment doc_style (is_set token.second)
    else if nat_eq token.kind 4 then Frontmatter (is_set token.first) (is_set token.second)
    else if nat_eq token.kind 5 then Ident
    else if nat_eq token.kind 6 then InvalidIdent
    else if nat_eq token.kind 7 then RawIdent
    else if nat_eq token.kind 8 then ForcedKeywordIdent
    else if nat_eq token.kind 9 then UnknownPrefix
    else if nat_eq token.kind 10 then UnknownPrefixLifetime
    else if nat_eq token.kind 11 then RawLifetime
    else if nat_eq token.kind 12 then GuardedStrPrefix
    else if nat_eq token.kind 13 then Literal (literal_of token) token.suffix_start
    else if nat_eq token.kind 14 then Lifetime (is_set token.first)
    else if nat_eq token.kind 42 then Unknown
    else Whitespace
