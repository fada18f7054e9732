-- The value of a literal, as C sees it: its units in order, each as numbers with its range.
use Rattle.std.specs.Prelude.{ℕ, ◌≡◌, ◌≢◌, ◌≤◌, if◌then◌else◌, List, [], ◌∷◌, ◌++◌, length, map, take, drop, max, min}
use Rattle.std.specs.Prelude.{nat_eq, Option, Some, None, Result, Ok, Err}
use Rattle.std.specs.Option.{IsSomeAnd}
use Rattle.std.specs.Str.{chars}
use Rattle.std.specs.declared.ops.Range.{Range}
use Rattle.rustc_literal_escaper.specs.declared.error.EscapeError.{EscapeError}
use Rattle.rustc_literal_escaper.specs.declared.mode.Mode.{Mode}
use Rattle.rustc_literal_escaper.specs.declared.mode.Mode.TheVariants.{Char, Byte, Str, RawStr, ByteStr, RawByteStr}
use Rattle.rustc_literal_escaper.specs.declared.mode.Mode.TheVariants.{CStr, RawCStr}
use Rattle.rustc_literal_escaper.specs.declared.unit.MixedUnit.{MixedUnit}
use Rattle.rustc_literal_escaper.specs.declared.unit.MixedUnit.TheVariants.{Char as CharUnit, HighByte}
use Rattle.rustc_literal_escaper.specs.Grammar.{Error, Item}
use Rattle.rustc_lexer_errors.specs.LineEnds.{escape_errors_in_file}
use Rattle.rustc_literal_escaper.specs.Answers.{byte_literal, char_literal, items_of}
use Rattle.rustc_literal_escaper.specs.Meaning.{byte_of, char_of, is_fatal, is_raw, is_single, raw_unit_of, unit_of}
pub use Rattle.rustc_literal_escaper.specs.Numbers.{error_number}
use Rattle.rustc_lexer_c.specs.declared.escapes.CUnit.{CUnit}
use Rattle.rustc_lexer_c.specs.declared.status.Refusal.TheVariants.{InvalidMode}
use Rattle.rustc_lexer_c.specs.Status.{IsStatus, OK, refusal_number}

-- Returns the mode with this number, which is also the number of the literal's kind in a token.
abbrev pub mode_of : ℕ → Option Mode
mode_of number =
    if nat_eq number 3 then Some Char
    else if nat_eq number 4 then Some Byte
    else if nat_eq number 5 then Some Str
    else if nat_eq number 6 then Some ByteStr
    else if nat_eq number 7 then Some CStr
    else if nat_eq number 8 then Some RawStr
    else if nat_eq number 9 then Some RawByteStr
    else if nat_eq number 10 then Some RawCStr
    else None

-- The kinds of units have the same names as in the header.
abbrev pub UNIT_CHAR : ℕ
UNIT_CHAR = 1

abbrev pub UNIT_BYTE : ℕ
UNIT_BYTE = 2

abbrev pub UNIT_ERROR : ℕ
UNIT_ERROR = 3

abbrev pub UNIT_WARNING : ℕ
UNIT_WARNING = 4

abbrev pub wrong_kind : EscapeError → ℕ
wrong_kind error = if is_fatal error then UNIT_ERROR else UNIT_WARNING

abbrev pub unit_at : Range ℕ → ℕ → ℕ → CUnit
unit_at place kind value =
    record { start = place.start; end = place.end; kind = kind; value = value }

abbrev pub wrong_unit : Range ℕ → EscapeError → CUnit
wrong_unit place error = unit_at place (wrong_kind error) (error_number error)

-- Returns the unit of a character or a byte, or of its error.
abbrev pub coded_unit : ℕ → Range ℕ → Result ℕ EscapeError → CUnit
coded_unit kind place (Ok code) = unit_at place kind code
coded_unit kind place (Err error) = wrong_unit place error

abbrev pub mixed_unit : Range ℕ → Result MixedUnit EscapeError → CUnit
mixed_unit place (Ok (CharUnit c)) = unit_at place UNIT_CHAR c
mixed_unit place (Ok (HighByte b)) = unit_at place UNIT_BYTE b
mixed_unit place (Err error) = wrong_unit place error

-- Returns the unit of an element between double quotes.
abbrev pub item_unit : Mode → Item → CUnit
item_unit Char item = coded_unit UNIT_CHAR item.0 (char_of item.1)
item_unit Str item = coded_unit UNIT_CHAR item.0 (char_of item.1)
item_unit RawStr item = coded_unit UNIT_CHAR item.0 (char_of item.1)
item_unit Byte item = coded_unit UNIT_BYTE item.0 (byte_of item.1)
item_unit ByteStr item = coded_unit UNIT_BYTE item.0 (byte_of item.1)
item_unit RawByteStr item = coded_unit UNIT_BYTE item.0 (byte_of item.1)
item_unit CStr item = mixed_unit item.0 (unit_of item.1)
item_unit RawCStr item = coded_unit UNIT_CHAR item.0 (raw_unit_of item.1)

-- Returns the range of the unit between single quotes, which is the whole text.
abbrev pub whole : List ℕ → Range ℕ
whole text = record { start = 0; end = length text }

abbrev pub single_unit : Mode → List ℕ → CUnit
single_unit Byte text = coded_unit UNIT_BYTE (whole text) (byte_literal (chars text))
single_unit mode text = coded_unit UNIT_CHAR (whole text) (char_literal (chars text))

-- Returns the units of the text between the quotes of a literal.
abbrev pub units_of : Mode → List ℕ → List CUnit
units_of mode text =
    if is_single mode then single_unit mode text
    ∷ [] else map (item_unit mode) (items_of (is_raw mode) text)

-- Returns the errors as units, in order.
abbrev pub wrong_units : List Error → List CUnit
wrong_units errors = map (λ (e : Error). wrong_unit e.0 e.1) errors

-- Holds if a call wrote a batch of units, without the first `passed` ones: as many as there is room for. They are at
-- the start of the buffer, and the rest of it is unchanged.
pub record IsUnits (units : List CUnit) (passed : ℕ) (buffer filled : List CUnit) (count : ℕ) : Type
    0 where
  pub as_many : count ≡ min (length buffer) (length (drop passed units))
  pub written : filled ≡ take count (drop passed units) ++ drop count buffer

abbrev pub wrong_units_of : Mode → List ℕ → List CUnit
wrong_units_of mode text = wrong_units (escape_errors_in_file mode text)

-- A call lists units of a text, in the mode with a number. The list has at most as many units as the text has bytes, or
-- one if the text is empty, so a buffer of that length is enough. If the call fails, the buffer is unchanged and the
-- count is 0.
pub record Lists (list : Mode → List ℕ → List CUnit) (mode : Option Mode) (text : List ℕ)
    (passed : ℕ) (buffer filled : List CUnit) (count status : ℕ) : Type 0 where
  pub status_is : IsStatus text (mode ≢ None) (refusal_number InvalidMode) status
  pub units : status ≡ OK → IsSomeAnd mode
      (λ kind. IsUnits (list kind text) passed buffer filled count)
  pub at_most : status ≡ OK → IsSomeAnd mode (λ kind. length (list kind text) ≤ max 1 (length text))
  pub refused : status ≢ OK → (filled ≡ buffer) × (count ≡ 0)
