-- The contents of a terminated literal: the text between its quotes.
use Rattle.std.specs.Prelude.{◌+◌, ◌-◌, ◌==◌, ℕ, length, not, nat_lt, Bool, true, if◌then◌else◌, Option, Some, None}
use Rattle.std.specs.List.{position_or_len, suffix_len}
use Rattle.std.specs.Option.{option_and_then, option_map}
use Rattle.std.specs.Str.{byte}
use Rattle.std.specs.declared.ops.Range.{Range}
use Rattle.rustc_lexer.specs.Classes.{Utf8}
use Rattle.rustc_lexer.specs.declared.token.LiteralKind.{LiteralKind}
use Rattle.rustc_lexer.specs.declared.token.LiteralKind.TheVariants.{Char as CharToken, Byte as ByteToken}
use Rattle.rustc_lexer.specs.declared.token.LiteralKind.TheVariants.{Str as StrToken, ByteStr as ByteStrToken}
use Rattle.rustc_lexer.specs.declared.token.LiteralKind.TheVariants.{CStr as CStrToken, RawStr as RawStrToken}
use Rattle.rustc_lexer.specs.declared.token.LiteralKind.TheVariants.{RawByteStr as RawByteStrToken}
use Rattle.rustc_lexer.specs.declared.token.LiteralKind.TheVariants.{RawCStr as RawCStrToken}
use Rattle.rustc_lexer.specs.declared.token.TokenKind.{TokenKind}
use Rattle.rustc_lexer.specs.declared.token.TokenKind.TheVariants.{Literal}
use Rattle.rustc_literal_escaper.specs.declared.mode.Mode.{Mode}
use Rattle.rustc_literal_escaper.specs.declared.mode.Mode.TheVariants.{Char, Byte, Str, RawStr, ByteStr, RawByteStr}
use Rattle.rustc_literal_escaper.specs.declared.mode.Mode.TheVariants.{CStr, RawCStr}
use Rattle.rustc_literal_escaper.specs.Meaning.{is_single}

-- Returns the mode of a terminated literal. Numbers have none.
abbrev pub literal_mode : LiteralKind → Option Mode
literal_mode (CharToken true) = Some Char
literal_mode (ByteToken true) = Some Byte
literal_mode (StrToken true) = Some Str
literal_mode (ByteStrToken true) = Some ByteStr
literal_mode (CStrToken true) = Some CStr
literal_mode (RawStrToken (Some n_hashes)) = Some RawStr
literal_mode (RawByteStrToken (Some n_hashes)) = Some RawByteStr
literal_mode (RawCStrToken (Some n_hashes)) = Some RawCStr
literal_mode kind = None

abbrev pub closed_mode : TokenKind → Option Mode
closed_mode (Literal kind suffix_start) = literal_mode kind
closed_mode kind = None

abbrev pub delimiter : Mode → ℕ
delimiter mode = if is_single mode then byte "'" else byte "\""

-- Returns the offset of the first byte with this value, or the length of the text if there is none.
unfoldable pub first_offset : ℕ → Utf8 → ℕ
first_offset b text = position_or_len (λ x. x == b) text

-- Returns the offset of the last byte with this value, or 0 if there is none.
unfoldable pub last_offset : ℕ → Utf8 → ℕ
last_offset b text = length text - suffix_len (λ x. not (x == b)) text - 1

-- Returns the offsets at which the contents start and end, from the offsets of the two quotes.
abbrev pub between_places : ℕ → ℕ → Option (ℕ × ℕ)
between_places first last = if nat_lt first last then Some (first + 1, last) else None

abbrev pub contents_places : Mode → Utf8 → Option (ℕ × ℕ)
contents_places mode text =
    between_places (first_offset (delimiter mode) text) (last_offset (delimiter mode) text)

-- Returns the mode of a terminated literal and the range between its quotes.
abbrev pub contents_in : Mode → Utf8 → Option (Mode × Range ℕ)
contents_in mode text =
    option_map (λ (places : ℕ × ℕ). (mode, record { start = places.0; end = places.1 }))
    (contents_places mode text)

abbrev pub contents : TokenKind → Utf8 → Option (Mode × Range ℕ)
contents kind text = option_and_then (λ (mode : Mode). contents_in mode text) (closed_mode kind)
