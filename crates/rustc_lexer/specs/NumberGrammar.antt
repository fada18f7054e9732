-- The grammar of numbers without their suffix: which texts are numbers, of which kind, and what can follow them. All
-- texts are lists of characters, `next` is the text after the number, and names in capitals are as in Language.antt.
-- The kinds with their fields are Int base empty_int and Float base empty_exponent.
use Rattle.std.specs.Prelude.{◌≡◌, ℕ, ◌≤◌, ◌==◌, ◌||◌, not, Bool, true, false, [], ◌∷◌, ◌++◌, length}
use Rattle.std.specs.{Char.is_ascii_digit, Char.is_ascii_hexdigit, List.list_all, List.list_any, Str.byte}
use Rattle.rustc_lexer.specs.{Base, LiteralKind, Binary, Octal, Decimal, Hexadecimal, Int, Float}
use Rattle.rustc_lexer.specs.Classes.{is_id_start, Chars, next_is}

-- Whether the character is in the class or is an underscore.
abbrev pub or_underscore : (ℕ → Bool) → ℕ → Bool
or_underscore p c = p c || c == byte "_"

-- Whether the character can start an exponent.
abbrev pub is_exponent_letter : ℕ → Bool
is_exponent_letter c = c == byte "e" || c == byte "E"

-- Whether the character is the sign of an exponent.
abbrev pub is_sign : ℕ → Bool
is_sign c = c == byte "+" || c == byte "-"

-- Whether a dot before this character is not part of a number: `1..2`, `1.max(2)`.
abbrev pub is_no_fraction : ℕ → Bool
is_no_fraction c = c == byte "." || is_id_start c

-- Holds if all characters are digits or underscores. The text can be empty.
abbrev pub AreDigits : (ℕ → Bool) → Chars → Type 0
AreDigits is_digit ds = list_all (or_underscore is_digit) ds ≡ true

-- Whether the lexer reads the character as a digit of the base: HEX_DIGIT if the base is hexadecimal, otherwise
-- DEC_DIGIT, even for a base below ten.
abbrev pub is_digit_of : Base → ℕ → Bool
is_digit_of Hexadecimal = is_ascii_hexdigit
is_digit_of base = is_ascii_digit

-- ---- the parts of a number

-- Holds if the text is the integer part of a number (DEC_LITERAL, BIN_LITERAL, OCT_LITERAL, HEX_LITERAL): digits,
-- `1_000`, or the prefix of a base and digits, `0b101`, `0x1F`. It is a RESERVED_NUMBER if a digit is too large for the
-- base, `0b102`, or if no digit follows the prefix, `0b_`. In the latter case `empty` is true.
pub data IsWholePart : Base → (empty : Bool) → Chars → Type 0 where
  plain : {d : ℕ} {ds : Chars}
      → is_ascii_digit d ≡ true
      → AreDigits is_ascii_digit ds
      → IsWholePart Decimal false (d ∷ ds)
  with_b : {ds : Chars}
      → AreDigits is_ascii_digit ds
      → IsWholePart Binary (not (list_any is_ascii_digit ds)) (byte "0" ∷ byte "b" ∷ ds)
  with_o : {ds : Chars}
      → AreDigits is_ascii_digit ds
      → IsWholePart Octal (not (list_any is_ascii_digit ds)) (byte "0" ∷ byte "o" ∷ ds)
  with_x : {ds : Chars}
      → AreDigits is_ascii_hexdigit ds
      → IsWholePart Hexadecimal (not (list_any is_ascii_hexdigit ds)) (byte "0" ∷ byte "x" ∷ ds)

-- Holds if the text is a FLOAT_EXPONENT: a letter, an optional sign, and digits or underscores: `e5`, `E+_5`. The kind
-- is Float base empty_exponent, where empty_exponent is true if there are no digits: `e+`. The Reference rejects that
-- ("Reserved forms similar to number literals").
pub data IsExponent : Base → LiteralKind → Chars → Type 0 where
  signed : {base : Base} {e g : ℕ} {ds : Chars}
      → is_exponent_letter e ≡ true
      → is_sign g ≡ true
      → AreDigits is_ascii_digit ds
      → IsExponent base (Float base (not (list_any is_ascii_digit ds))) (e ∷ g ∷ ds)
  unsigned : {base : Base} {e : ℕ} {ds : Chars}
      → is_exponent_letter e ≡ true
      → AreDigits is_ascii_digit ds
      → IsExponent base (Float base (not (list_any is_ascii_digit ds))) (e ∷ ds)

-- Holds if the text is the tail of a number, between its integer part and its suffix. The tail of INTEGER_LITERAL is
-- empty (`nothing`). The other rules are for FLOAT_LITERAL; after the prefix of a base they form a RESERVED_NUMBER.
pub data IsTailBefore (next : Chars) : Base → LiteralKind → Chars → Type 0 where
  -- `1`
  nothing : {base : Base} → IsTailBefore next base (Int base false) []
  -- `1.`; not `1.` before `.` or `max`
  dot : {base : Base} → next_is is_no_fraction next ≡ false
      → IsTailBefore next base (Float base false) (byte "." ∷ [])
  -- `1.5`; not `1._5`
  of_fraction : {base : Base} {d : ℕ} {ds : Chars}
      → is_ascii_digit d ≡ true
      → AreDigits is_ascii_digit ds
      → IsTailBefore next base (Float base false) (byte "." ∷ d ∷ ds)
  -- `1e5`; not `0x1e5`, where `e` is a digit
  of_exponent : {base : Base} {kind : LiteralKind} {e : ℕ} {ds : Chars}
      → is_digit_of base e ≡ false
      → IsExponent base kind (e ∷ ds)
      → IsTailBefore next base kind (e ∷ ds)
  -- `1.5e5`; also `0x1.5e5`
  of_both : {base : Base} {kind : LiteralKind} {d : ℕ} {e : Chars} (ds : Chars)
      → is_ascii_digit d ≡ true
      → AreDigits is_ascii_digit ds
      → IsExponent base kind e
      → IsTailBefore next base kind (byte "." ∷ d ∷ ds ++ e)

-- ---- numbers

-- Holds if w has the form of a number when `next` follows it: it is either an integer part that is `empty`, or a
-- nonempty integer part with a tail.
pub data HasNumberForm (next : Chars) : LiteralKind → Chars → Type 0 where
  of_prefix : {base : Base} {whole : Chars} → IsWholePart base true whole
      → HasNumberForm next (Int base true) whole
  of_parts : {base : Base} {kind : LiteralKind} {whole tail : Chars}
      → IsWholePart base false whole
      → IsTailBefore next base kind tail
      → HasNumberForm next kind (whole ++ tail)

-- Holds if w is a number when `next` follows it: w has the form of a number, and is the longest text of that form at
-- its position. `1.5e+` is a number, although it starts with other texts of that form: `1`, `1.`, `1.5` and `1.5e`.
pub record IsNumberBefore (next : Chars) (kind : LiteralKind) (w : Chars) : Type 0 where
  pub form : HasNumberForm next kind w
  pub longest : (other : LiteralKind) (v rest : Chars)
      → v ++ rest ≡ w ++ next
      → HasNumberForm rest other v
      → length v ≤ length w
