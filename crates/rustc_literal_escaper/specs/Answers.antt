-- The answers of the grammar, under the names that contracts use. Each answer comes from a value whose type states that
-- the grammar allows this answer and no other, so you only need to read that type. laws/TheAnswers.antt computes the
-- answers and proves these statements.
use Rattle.std.specs.Prelude.{ℕ, Bool, List, Result, Ok, Err}
use Rattle.std.specs.Option.{option_to_list}
use Rattle.std.specs.Result.{result_err}
use Rattle.std.specs.Str.{chars, IsUtf8}
use Rattle.rustc_literal_escaper.specs.declared.element.Element.{Element}
use Rattle.rustc_literal_escaper.specs.declared.error.EscapeError.{EscapeError}
use Rattle.rustc_literal_escaper.specs.declared.mode.Mode.{Mode}
use Rattle.rustc_literal_escaper.specs.declared.mode.Mode.TheVariants.{Char, Byte}
use Rattle.rustc_literal_escaper.specs.Grammar.{AreItems, Chars, Error, IsSingle, Item, TheOnly}
use Rattle.rustc_literal_escaper.specs.Meaning.{byte_of, char_of, errors_in, is_raw}
use Rattle.rustc_literal_escaper.specs.laws.TheAnswers.{the_items, the_single}

-- Returns the items of a text between double quotes, raw or not. The text must be UTF-8.
abbrev pub items_of : Bool → List ℕ → List Item
items_of raw text =
    let the : TheOnly (IsUtf8 text) (AreItems raw 0 (chars text)) = the_items raw text in
    the.answer

-- Returns the value of a text between single quotes, or its error with the range.
abbrev pub single_of : {U : Type 0} → (Element → Result U EscapeError) → Chars → Result U Error
single_of meaning s =
    let the : TheOnly (Unit {0}) (IsSingle meaning s) = the_single meaning s in
    the.answer

-- Drops the range of the error.
abbrev pub without_range : {U : Type 0} → Result U Error → Result U EscapeError
without_range (Ok unit) = Ok unit
without_range (Err error) = Err error.1

abbrev pub char_literal : Chars → Result ℕ EscapeError
char_literal s = without_range (single_of char_of s)

abbrev pub byte_literal : Chars → Result ℕ EscapeError
byte_literal s = without_range (single_of byte_of s)

-- Returns the errors and warnings of a literal of this kind.
abbrev pub errors_of : Mode → List ℕ → List Error
errors_of Char text = option_to_list (result_err (single_of char_of (chars text)))
errors_of Byte text = option_to_list (result_err (single_of byte_of (chars text)))
errors_of mode text = errors_in mode (items_of (is_raw mode) text)
