-- The contents of a literal in a file. rustc reads a CRLF as one line ending; any other carriage return is bare.
use Rattle.std.specs.Prelude.{ℕ, zero, suc, ◌==◌, ◌&&◌, Bool, if◌then◌else◌, List, [], ◌∷◌, map, Option}
use Rattle.std.specs.Result.{result_err}
use Rattle.std.specs.Str.{chars}
use Rattle.std.specs.declared.ops.Range.{Range}
use Rattle.rustc_lexer.specs.Classes.{Utf8}
use Rattle.rustc_literal_escaper.specs.declared.error.EscapeError.{EscapeError}
use Rattle.rustc_literal_escaper.specs.declared.mode.Mode.{Mode}
use Rattle.rustc_literal_escaper.specs.declared.mode.Mode.TheVariants.{Byte}
use Rattle.rustc_literal_escaper.specs.Answers.{byte_literal, char_literal, errors_of, items_of}
use Rattle.rustc_literal_escaper.specs.Grammar.{Error, Item, is_newline, next_is}

-- Whether c is the carriage return of a CRLF, if s follows it.
abbrev pub ends_line : ℕ → List ℕ → Bool
ends_line c s = c == 13 && next_is is_newline s

-- Returns the text with CRLF line endings replaced by LF.
abbrev pub unix : List ℕ → List ℕ
unix [] = []
unix (c ∷ s) = if ends_line c s then unix s else c ∷ unix s

-- Converts an offset in `unix s` to an offset in s. A carriage return that `unix` removes belongs to the newline after
-- it.
abbrev pub place : Utf8 → ℕ → ℕ
place s zero = zero
place [] (suc i) = suc i
place (c ∷ s) (suc i) = if ends_line c s then suc (place s (suc i)) else suc (place s i)

abbrev pub moved : Utf8 → Range ℕ → Range ℕ
moved s range = record { start = place s range.start; end = place s range.end }

-- Returns the items of a text in a file: the items of the text with LF line endings, with their ranges in the file.
abbrev pub file_items : Bool → Utf8 → List Item
file_items raw s = map (λ (i : Item). (moved s i.0, i.1)) (items_of raw (unix s))

-- Returns the errors and warnings of a literal in a file, with their ranges in the file.
abbrev pub escape_errors_in_file : Mode → Utf8 → List Error
escape_errors_in_file mode s = map (λ (e : Error). (moved s e.0, e.1)) (errors_of mode (unix s))

-- Returns the error between single quotes. A CRLF counts as a newline.
abbrev pub char_error : Mode → Utf8 → Option EscapeError
char_error Byte contents = result_err (byte_literal (chars (unix contents)))
char_error mode contents = result_err (char_literal (chars (unix contents)))
