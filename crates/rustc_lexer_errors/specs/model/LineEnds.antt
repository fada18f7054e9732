-- The model of reading a text in a file: character by character, with CRLF as one character.
use Rattle.std.specs.{Prelude.{◌≡◌, ℕ, not, Bool, true, List, [], ◌∷◌, ◌++◌, length, map, Option}, Option.{option_map}}
use Rattle.std.specs.Str.{chars, IsUtf8}
use Rattle.rustc_lexer.specs.Classes.{Utf8}
use Rattle.rustc_literal_escaper.specs.declared.element.Element.{Element}
use Rattle.rustc_literal_escaper.specs.declared.mode.Mode.{Mode}
use Rattle.rustc_literal_escaper.specs.Grammar.{Error, Item}
use Rattle.rustc_literal_escaper.specs.model.Elements as reading
use Rattle.rustc_literal_escaper.specs.model.Elements.{front_by, items_from}
use Rattle.rustc_literal_escaper.specs.model.Single.{single_error}
use Rattle.rustc_lexer_errors.specs.LineEnds.{ends_line, moved, place, unix}

-- Returns the last of the characters, or c if there are none.
abbrev pub last_from : ℕ → List ℕ → ℕ
last_from c [] = c
last_from c (d ∷ w) = last_from d w

-- Whether the cut between w and t is not inside a CRLF.
abbrev pub is_whole : List ℕ → List ℕ → Bool
is_whole w t = not (ends_line (last_from 0 w) t)

-- Holds if `left` is a suffix of the text that does not start inside a CRLF. Both are valid UTF-8.
pub record IsLeft (text left : Utf8) : Type 0 where
  pub read : List ℕ
  pub whole : chars text ≡ read ++ chars left
  pub uncut : is_whole read (chars left) ≡ true
  pub all : IsUtf8 text
  pub spelt : IsUtf8 left

-- Returns the offset in a text at which only these characters are left.
abbrev pub offset_of : Utf8 → List ℕ → ℕ
offset_of text left = place text (reading.place (length (unix text)) left)

-- Returns the item of an element that starts at an offset and ends where the rest starts.
abbrev pub file_item : Utf8 → ℕ → Element × List ℕ → Item
file_item text start found = (record { start = start; end = offset_of text found.1 }, found.0)

-- Returns the items of the rest of a text.
abbrev pub left_items : Bool → Utf8 → List ℕ → List Item
left_items raw text left =
    map (λ (i : Item). (moved text i.0, i.1))
    (items_from (front_by raw) (length (unix text)) left)

-- Returns the error between single quotes, with its range in the text.
abbrev pub single_left : Utf8 → Mode → List ℕ → Option Error
single_left text mode left =
    option_map (λ (e : Error). (moved text e.0, e.1))
    (single_error (reading.place (length (unix text))) mode left)
