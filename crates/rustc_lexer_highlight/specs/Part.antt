-- The parts of a highlighted text, and the output for each of them.
use Rattle.std.specs.Prelude.{ℕ, ◌-◌, ◌==◌, Bool, ◌&&◌, ◌||◌, if◌then◌else◌, List, [], ◌∷◌, ◌++◌, codes, drop, length}
use Rattle.std.specs.Prelude.{slice_index, take}
use Rattle.std.specs.List.{flat_map, position_or_len}
use Rattle.std.specs.Str.{byte, chars, encode_utf8_all}
use Rattle.rustc_lexer_highlight.specs.declared.class.Class.{Class}
use Rattle.rustc_lexer_errors.specs.declared.errors.TokenError.{TokenError}
use Rattle.rustc_lexer_highlight.specs.declared.format.Format.{Format}
use Rattle.rustc_lexer_highlight.specs.declared.format.Format.TheVariants.{Html, Colours, NoColours, Raw}
use Rattle.rustc_lexer_highlight.specs.Escape.{entity, escaped}
use Rattle.rustc_lexer_highlight.specs.Screen.{seen}
use Rattle.rustc_lexer_highlight.specs.Markup.{class_open, class_close, error_open, error_close}

-- A part of a highlighted text: text of one class, the start or the end of an error, or the carriage return of a CRLF
-- whose newline is in the next token.
pub data Part : Type 0 where
  Own : Class → List ℕ → Part
  Open : TokenError → Part
  Close : TokenError → Part
  Return : Part

-- Whether the byte ends a line: a newline or a carriage return.
abbrev pub ends_line : ℕ → Bool
ends_line b = b == byte "\n" || b == byte "\r"

-- Returns the length of the first line in bytes.
abbrev pub first_line : List ℕ → ℕ
first_line text = position_or_len ends_line text

-- Returns the parts of a token with an error. The error covers only its first line.
abbrev pub error_parts : TokenError → Class → List ℕ → List Part
error_parts error class text =
    Open error ∷ Own class (take (first_line text) text)
    ∷ Close error ∷ Own class (drop (first_line text) text) ∷ []

-- Whether a token ends between the carriage return and the newline of a CRLF. `next` is the text after the token.
abbrev pub is_cut_line_end : List ℕ → List ℕ → Bool
is_cut_line_end text next =
    slice_index text (length text - 1) == byte "\r" && slice_index next 0 == byte "\n"

-- Returns the text of a token without the carriage return of such a CRLF.
abbrev pub before_return : List ℕ → List ℕ → List ℕ
before_return text next = if is_cut_line_end text next then take (length text - 1) text else text

-- Returns that carriage return, if there is one, as a part of its own.
abbrev pub return_part : List ℕ → List ℕ → List Part
return_part text next = if is_cut_line_end text next then Return ∷ [] else []

-- Returns the output for text without markup: with entities in HTML, with symbols for control characters in the other
-- formats, and unchanged in the format `Raw`.
abbrev pub shown : Format → List ℕ → List ℕ
shown Html text = escaped text
shown Colours text = encode_utf8_all (seen (chars text))
shown NoColours text = encode_utf8_all (seen (chars text))
shown Raw text = text

-- Returns the output for a part: text with the markup of its class, or the markup of an error. Empty text has no
-- markup.
abbrev pub written : Format → Part → List ℕ
written format (Own class []) = []
written format (Own class (b ∷ bs)) =
    class_open format class ++ (shown format (b ∷ bs) ++ class_close format class)
written format (Open error) = error_open format error
written format (Close error) = error_close format error
written Html Return = entity (byte "\r")
written format Return = codes "\r"

-- Returns the output for some parts.
abbrev pub with_markup : Format → List Part → List ℕ
with_markup format [] = []
with_markup format (part ∷ parts) = written format part ++ with_markup format parts

-- Returns the text of a part, without markup. The start and the end of an error have none.
abbrev pub own : Part → List ℕ
own (Own class text) = text
own Return = codes "\r"
own mark = []

-- Returns the text of some parts, without markup.
abbrev pub without_markup : List Part → List ℕ
without_markup parts = flat_map own parts

-- Returns the characters of a part that a terminal displays, without markup.
abbrev pub displayed_part : Part → List ℕ
displayed_part (Own class text) = seen (chars text)
displayed_part Return = codes "\r"
displayed_part mark = []

-- Returns the characters of some parts that a terminal displays, without markup.
abbrev pub displayed : List Part → List ℕ
displayed parts = flat_map displayed_part parts
