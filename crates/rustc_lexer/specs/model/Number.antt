-- Model of numbers.
use Rattle.std.specs.Prelude.{ℕ, ◌==◌, ◌&&◌, not, Bool, false, true, if◌then◌else◌, List, drop, codes}
use Rattle.std.specs.{Char.{is_ascii_digit, is_ascii_hexdigit}, List.{list_any}, Str.{byte}}
pub use Rattle.rustc_lexer.specs.declared.lexemes.number.IntegerPart.{IntegerPart}
use Rattle.rustc_lexer.specs.{Base, LiteralKind, TokenKind, Binary, Octal, Decimal, Hexadecimal, Int, Float}
use Rattle.rustc_lexer.specs.model.Literal.{Body, literal}
pub use Rattle.rustc_lexer.specs.NumberGrammar.{or_underscore, is_exponent_letter, is_sign, is_no_fraction}
use Rattle.rustc_lexer.specs.model.Scan.{after, and_then, begins, gives, next_is, read_as, run, run_as}

abbrev pub is_underscore : ℕ → Bool
is_underscore c = c == byte "_"

-- Reads a run of digits and underscores, and returns whether it contains a digit.
abbrev pub digits : (ℕ → Bool) → List ℕ → Bool × ℕ
digits is_digit s = run_as (λ ds rest. list_any is_digit ds) (or_underscore is_digit) s

-- Returns the integer part of a number: its base, and whether no digit follows the prefix of the base.
abbrev pub part_of : Base → Bool → IntegerPart
part_of base empty = record { base = base; empty_int = empty }

-- Returns an integer part with a prefix, given whether a digit follows the prefix.
abbrev pub prefixed : Base → Bool → IntegerPart
prefixed base has_digit = part_of base (not has_digit)

-- Reads a binary integer part after the letter of its prefix.
abbrev pub binary : List ℕ → IntegerPart × ℕ
binary = read_as (prefixed Binary) (digits is_ascii_digit)

-- Reads an octal integer part after the letter of its prefix.
abbrev pub octal : List ℕ → IntegerPart × ℕ
octal = read_as (prefixed Octal) (digits is_ascii_digit)

-- Reads a hexadecimal integer part after the letter of its prefix.
abbrev pub hexadecimal : List ℕ → IntegerPart × ℕ
hexadecimal = read_as (prefixed Hexadecimal) (digits is_ascii_hexdigit)

-- Reads the rest of an integer part without a prefix.
abbrev pub decimal : List ℕ → IntegerPart × ℕ
decimal = run (part_of Decimal false) (or_underscore is_ascii_digit)

-- Reads the integer part of a number after its first digit, which is `0`.
abbrev pub part_past_zero : List ℕ → IntegerPart × ℕ
part_past_zero s =
    if begins (codes "b") s then after 1 binary s
    else (if begins (codes "o") s then after 1 octal s
    else (if begins (codes "x") s then after 1 hexadecimal s
    else decimal s))

-- Reads the integer part of a number after its first digit.
abbrev pub integer_part : ℕ → List ℕ → IntegerPart × ℕ
integer_part first s = if first == byte "0" then part_past_zero s else decimal s

-- Returns the kind of a float with an exponent, given whether the exponent has a digit.
abbrev pub float : Base → Bool → LiteralKind
float base has_digit = Float base (not has_digit)

-- Reads the digits of an exponent.
abbrev pub past_sign : Base → List ℕ → LiteralKind × ℕ
past_sign base = read_as (float base) (digits is_ascii_digit)

-- Reads an exponent after its letter: an optional sign, and digits.
abbrev pub float_exponent : Base → List ℕ → LiteralKind × ℕ
float_exponent base s = if next_is is_sign s then after 1 (past_sign base) s else past_sign base s

-- Reads an exponent, if there is one.
abbrev pub optional_exponent : Base → List ℕ → LiteralKind × ℕ
optional_exponent base s =
    if next_is is_exponent_letter s then after 1 (float_exponent base) s else gives
    (Float base false) s

-- Reads the digits of a fraction, and an optional exponent.
abbrev pub fraction_digits : Base → List ℕ → LiteralKind × ℕ
fraction_digits base = and_then (run base (or_underscore is_ascii_digit)) optional_exponent

-- Reads the text after the dot of a float: digits with an optional exponent if a digit is next, otherwise nothing.
unfoldable pub fraction : Base → List ℕ → LiteralKind × ℕ
fraction base s =
    if next_is is_ascii_digit s then fraction_digits base s else gives (Float base false) s

abbrev pub begins_fraction : List ℕ → Bool
begins_fraction s = begins (codes ".") s && not (next_is is_no_fraction (drop 1 s))

-- Reads a fraction, an exponent or neither.
abbrev pub past_digits : Base → List ℕ → LiteralKind × ℕ
past_digits base s =
    if begins_fraction s then after 1 (fraction base) s
    else (if next_is is_exponent_letter s then after 1 (float_exponent base) s
    else gives (Int base false) s)

-- Reads the text after the integer part of a number.
abbrev pub tail : IntegerPart → List ℕ → LiteralKind × ℕ
tail integer_part s =
    if integer_part.empty_int then gives (Int integer_part.base true) s else past_digits
    integer_part.base s

-- Reads a number after its first digit, without its suffix.
unfoldable pub number_kind : ℕ → List ℕ → LiteralKind × ℕ
number_kind first s = and_then (integer_part first) tail s

-- Returns the body of a number, which can always have a suffix.
abbrev pub with_suffix : LiteralKind → Body
with_suffix kind = record { kind = kind; takes_suffix = true }

abbrev pub number_body : ℕ → List ℕ → Body × ℕ
number_body first = read_as with_suffix (number_kind first)

-- Lexes the text after the first digit of a number.
abbrev pub number : ℕ → List ℕ → TokenKind × ℕ
number first = literal (number_body first)
