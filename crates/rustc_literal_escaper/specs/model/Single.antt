-- The model of reading a text between single quotes, and the errors of a literal.
use Rattle.std.specs.Prelude.{◌≡◌, ℕ, ◌==◌, if◌then◌else◌, List, [], ◌∷◌, length, Option, Some, None, Result, Ok, Err}
use Rattle.std.specs.{Option.{option_to_list}, Str.{byte, chars}}
use Rattle.rustc_literal_escaper.specs.declared.element.Element.{Element}
use Rattle.rustc_literal_escaper.specs.declared.element.Element.TheVariants.{Plain, Diagnostic}
use Rattle.rustc_literal_escaper.specs.declared.error.EscapeError.{EscapeError}
use Rattle.rustc_literal_escaper.specs.declared.error.EscapeError.TheVariants.{ZeroChars, MoreThanOneChar}
use Rattle.rustc_literal_escaper.specs.declared.error.EscapeError.TheVariants.{EscapeOnlyChar, BareCarriageReturn}
use Rattle.rustc_literal_escaper.specs.declared.mode.Mode.{Mode}
use Rattle.rustc_literal_escaper.specs.Grammar.{Error}
use Rattle.rustc_literal_escaper.specs.Meaning.{byte_of, char_of, error_of, errors_in, is_raw, is_single}
use Rattle.rustc_literal_escaper.specs.model.Elements.{front_by, items_from, place}
use Rattle.rustc_literal_escaper.specs.model.Escape.{escape}

-- Returns the element of an unescaped character. A newline, a tab, a single quote or a carriage return is an error,
-- since it must be escaped.
abbrev pub unescaped : ℕ → Element
unescaped c =
    if c == 10 then Diagnostic EscapeOnlyChar else
    if c == 9 then Diagnostic EscapeOnlyChar else
    if c == byte "'" then Diagnostic EscapeOnlyChar else
    if c == 13 then Diagnostic BareCarriageReturn else
    Plain c

-- Returns the first element of a text that starts with the character `c`, and the text after it.
abbrev pub single : ℕ → List ℕ → Element × List ℕ
single c s = if c == byte "\\" then escape s else (unescaped c, s)

-- Holds if the text starts with this element, and `left` is the text after it.
abbrev pub StartsWithSingle : List ℕ → Element → List ℕ → Type 0
StartsWithSingle [] element left = ⊥
StartsWithSingle (c ∷ s) element left = (element, left) ≡ single c s

-- Holds if the text is one element that has this value in a character literal and in a byte literal.
pub record IsShort (s : List ℕ) (value : ℕ) : Type 0 where
  pub element : Element
  pub whole : StartsWithSingle s element []
  pub character : char_of element ≡ Ok value
  pub byte_value : byte_of element ≡ Ok value

-- Returns the value if there is one and no text is left, and the error otherwise.
abbrev pub alone : {U : Type 0} → Result U EscapeError → List ℕ → Result U EscapeError
alone (Ok unit) [] = Ok unit
alone (Ok unit) (c ∷ s) = Err MoreThanOneChar
alone (Err error) s = Err error

abbrev pub literal : {U : Type 0} → (Element → Result U EscapeError) → List ℕ → Result U EscapeError
literal meaning [] = Err ZeroChars
literal meaning (c ∷ s) = alone (meaning (single c s).0) (single c s).1

-- Returns an error between single quotes. There is at most one. Its range starts at the start of the text and ends
-- after the offending character.
abbrev pub error_to : (List ℕ → ℕ) → EscapeError → List ℕ → Option Error
error_to offset error left = Some (record { start = 0; end = offset left }, error)

abbrev pub alone_error : (List ℕ → ℕ) → Option EscapeError → List ℕ → Option Error
alone_error offset (Some error) left = error_to offset error left
alone_error offset None [] = None
alone_error offset None (c ∷ s) = error_to offset MoreThanOneChar s

abbrev pub single_error : (List ℕ → ℕ) → Mode → List ℕ → Option Error
single_error offset mode [] = Some (record { start = 0; end = 0 }, ZeroChars)
single_error offset mode (c ∷ s) =
    alone_error offset (error_of mode (single c s).0) (single c s).1

-- Returns the value of the literal, or its error with the range.
abbrev pub only : {U : Type 0} → ℕ → Result U EscapeError → List ℕ → Result U Error
only total (Err error) left = Err (record { start = 0; end = place total left }, error)
only total (Ok unit) [] = Ok unit
only total (Ok unit) (c ∷ s) = Err (record { start = 0; end = place total s }, MoreThanOneChar)

abbrev pub read_single : {U : Type 0} → ℕ → (Element → Result U EscapeError) → List ℕ
    → Result U Error
read_single total meaning [] = Err (record { start = 0; end = 0 }, ZeroChars)
read_single total meaning (c ∷ s) = only total (meaning (single c s).0) (single c s).1

-- Returns the errors and warnings of a literal of this kind.
abbrev pub read_errors : Mode → List ℕ → List Error
read_errors mode text =
    if is_single mode then option_to_list (single_error (place (length text)) mode (chars text))
    else errors_in mode (items_from (front_by (is_raw mode)) (length text) (chars text))
