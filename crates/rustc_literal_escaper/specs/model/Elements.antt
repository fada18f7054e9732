-- The model of reading a text between double quotes: its elements in order, each with its byte range.
use Rattle.std.specs.Prelude.{◌≡◌, ℕ, zero, suc, ◌-◌, ◌==◌, Bool, true, false, if◌then◌else◌, List, [], ◌∷◌, ◌++◌}
use Rattle.std.specs.Prelude.{length, map, Option, Some, None}
use Rattle.std.specs.{Char.{is_whitespace}, List.{list_any}, Str.{byte, encode_utf8_all}}
use Rattle.rustc_literal_escaper.specs.declared.element.Element.{Element}
use Rattle.rustc_literal_escaper.specs.declared.element.Element.TheVariants.{Plain, Diagnostic}
use Rattle.rustc_literal_escaper.specs.declared.error.EscapeError.TheVariants.{EscapeOnlyChar, BareCarriageReturn}
use Rattle.rustc_literal_escaper.specs.declared.error.EscapeError.TheVariants.{BareCarriageReturnInRawString}
use Rattle.rustc_literal_escaper.specs.declared.error.EscapeError.TheVariants.{UnskippedWhitespaceWarning}
use Rattle.rustc_literal_escaper.specs.declared.error.EscapeError.TheVariants.{MultipleSkippedLinesWarning}
use Rattle.rustc_literal_escaper.specs.Grammar.{Item, is_newline, is_passed_over}
use Rattle.rustc_literal_escaper.specs.model.Escape.{escape, front_run, past_run}

-- One step of reading a text: the elements that it reports, each with the text after that element, and the text after
-- the step.
pub record Front : Type 0 where
  pub found : List (Element × List ℕ)
  pub left : List ℕ

-- Returns a step that reports one element.
abbrev pub one : Element × List ℕ → Front
one read = record { found = read ∷ []; left = read.1 }

abbrev pub begins_line : List ℕ → Bool
begins_line [] = false
begins_line (c ∷ s) = is_newline c

-- Returns a warning if more than one line ending is skipped. The warning covers all of the skipped text.
abbrev pub more_lines : List ℕ → List ℕ → List (Element × List ℕ)
more_lines passed left =
    if list_any is_newline passed then (Diagnostic MultipleSkippedLinesWarning, left) ∷ [] else []

-- Returns a warning if other whitespace follows the skipped text. The warning also covers the first character of that
-- whitespace.
abbrev pub more_space : List ℕ → List (Element × List ℕ)
more_space [] = []
more_space (c ∷ s) = if is_whitespace c then (Diagnostic UnskippedWhitespaceWarning, s) ∷ [] else []

-- Returns the step after a backslash and a newline.
abbrev pub line_end : List ℕ → Front
line_end s = record {
  found =
      more_lines (front_run is_passed_over s) (past_run is_passed_over s)
      ++ more_space (past_run is_passed_over s);
  left = past_run is_passed_over s;
}

-- Returns the step after a backslash.
abbrev pub past_backslash : List ℕ → Front
past_backslash [] = one (escape [])
past_backslash (c ∷ s) = if is_newline c then line_end s else one (escape (c ∷ s))

-- Returns the element of an unescaped character. A double quote or a carriage return is an error, since it must be
-- escaped.
abbrev pub unescaped : ℕ → Element
unescaped c =
    if c == byte "\"" then Diagnostic EscapeOnlyChar else
    if c == 13 then Diagnostic BareCarriageReturn else
    Plain c

-- Returns the step that reads the character `c` before `s`.
unfoldable pub front : ℕ → List ℕ → Front
front c s = if c == byte "\\" then past_backslash s else one (unescaped c, s)

-- Returns the element of a character in a raw string. Only a carriage return is an error.
abbrev pub raw_element : ℕ → Element
raw_element c = if c == 13 then Diagnostic BareCarriageReturnInRawString else Plain c

unfoldable pub raw_front : ℕ → List ℕ → Front
raw_front c s = one (raw_element c, s)

abbrev pub front_by : Bool → ℕ → List ℕ → Front
front_by true = raw_front
front_by false = front

-- Holds if the text starts with this element, without a warning, and `left` is the text after it.
abbrev pub StartsWithOne : Bool → List ℕ → Element → List ℕ → Type 0
StartsWithOne raw [] element left = ⊥
StartsWithOne raw (c ∷ s) element left = front_by raw c s ≡ one (element, left)

-- Returns the offset of the rest `left` in a text of `total` bytes.
abbrev pub place : ℕ → List ℕ → ℕ
place total left = total - length (encode_utf8_all left)

-- Returns the item of an element that starts at the offset `start`. The function `offset` returns the offset of the
-- text after it.
abbrev pub item_by : (List ℕ → ℕ) → ℕ → Element × List ℕ → Item
item_by offset start found = (record { start = start; end = offset found.1 }, found.0)

abbrev pub item_at : ℕ → ℕ → Element × List ℕ → Item
item_at total = item_by (place total)

-- Returns the items of the rest of a text, in at most `count` steps.
abbrev pub items_in : (ℕ → List ℕ → Front) → ℕ → (List ℕ → ℕ) → List ℕ → List Item
items_in at zero offset s = []
items_in at (suc count) offset [] = []
items_in at (suc count) offset (c ∷ s) =
    map (item_by offset (offset (c ∷ s))) (at c s).found ++ items_in at count offset (at c s).left

-- Returns all items. A text has at most as many steps as characters, since each step reads at least one.
unfoldable pub items_by : (ℕ → List ℕ → Front) → (List ℕ → ℕ) → List ℕ → List Item
items_by at offset s = items_in at (length s) offset s

-- Returns the items of the rest of a text of `total` bytes.
abbrev pub items_from : (ℕ → List ℕ → Front) → ℕ → List ℕ → List Item
items_from at total = items_by at (place total)

-- Returns the second warning of the skipped line ending at this offset, if it has not been reported yet.
abbrev pub line_items : (List ℕ → ℕ) → Option ℕ → List ℕ → List Item
line_items offset None s = []
line_items offset (Some start) s = map (item_by offset start) (more_space s)

-- Returns this warning and the items after it.
abbrev pub all_items : Bool → (List ℕ → ℕ) → Option ℕ → List ℕ → List Item
all_items raw offset line s = line_items offset line s ++ items_by (front_by raw) offset s
