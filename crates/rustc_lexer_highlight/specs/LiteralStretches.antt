-- The guarantees for the stretches of a string, in terms of the errors that the escaper reports for its contents.
use Rattle.std.specs.Prelude.{◌≡◌, ◌+◌, ◌≤◌, ◌<◌, ◌&&◌, ◌⊎◌, not, ℕ, nat_le, nat_lt, Bool, true, false, List, [], ◌∷◌}
use Rattle.std.specs.Prelude.{All}
use Rattle.std.specs.List.{Contains, between, list_all, list_any}
use Rattle.std.specs.Str.{IsCharBoundary, IsUtf8}
use Rattle.std.specs.declared.ops.Range.{Range}
use Rattle.rustc_lexer.specs.Classes.{Utf8}
use Rattle.rustc_literal_escaper.specs.declared.error.EscapeError.{EscapeError}
use Rattle.rustc_literal_escaper.specs.declared.mode.Mode.{Mode}
use Rattle.rustc_literal_escaper.specs.Grammar.{Error, Item}
use Rattle.rustc_literal_escaper.specs.Meaning.{is_raw, is_single}
use Rattle.rustc_lexer_highlight.specs.Answers.{stretches_in}
use Rattle.rustc_lexer_errors.specs.LineEnds.{escape_errors_in_file, file_items}
use Rattle.rustc_lexer_highlight.specs.declared.literal.Look.{Look}
use Rattle.rustc_lexer_highlight.specs.declared.literal.Look.TheVariants.{Escape, Wrong}
use Rattle.rustc_lexer_highlight.specs.Literal.{Stretch, is_plain}

-- Holds if the stretches are between two offsets, are not empty, and are in order without overlaps.
abbrev pub AreInOrder : ℕ → List Stretch → ℕ → Type 0
AreInOrder at [] close = at ≤ close
AreInOrder at (s ∷ ss) close =
    (at ≤ s.start) × (s.start < s.end) × AreInOrder s.end ss close

-- Holds if an invalid stretch has the error and the range of one of these errors, whose offsets count from `begin`.
abbrev pub IsReported : ℕ → List Error → Stretch → Type 0
IsReported begin errors s =
    (error : EscapeError)
    → s.look ≡ Wrong error
    → (range : Range ℕ) × (s.start ≡ begin + range.start) × (s.end ≡ begin + range.end)
    × Contains errors (range, error)

abbrev pub is_wrong : Look → Bool
is_wrong (Wrong error) = true
is_wrong Escape = false

-- Whether the offset is in an invalid stretch.
abbrev pub is_in : List Stretch → ℕ → Bool
is_in ss place =
    list_any
    (λ (s : Stretch). is_wrong s.look && (nat_le s.start place && nat_lt place s.end)) ss

-- Whether the offset is in a stretch that is an escape.
abbrev pub is_escaped : List Stretch → ℕ → Bool
is_escaped ss place =
    list_any
    (λ (s : Stretch). not (is_wrong s.look) && (nat_le s.start place && nat_lt place s.end)) ss

-- Holds if the element starts in an invalid stretch, or starts in an escape exactly if it is not plain.
abbrev pub IsShown : ℕ → List Stretch → Item → Type 0
IsShown begin ss item =
    (is_in ss (begin + item.0.start) ≡ true)
    ⊎ (is_escaped ss (begin + item.0.start) ≡ not (is_plain item.1))

-- Holds if the contents of a string, from the offset `begin` to `close`, are highlighted correctly: as invalid wherever
-- the escaper reports an error, and nowhere else. An error that starts in the stretch of an earlier error, or at the
-- same offset, has no stretch of its own.
pub record IsHighlighted (mode : Mode) (begin close : ℕ) (text : Utf8) : Type 0 where
  pub order : AreInOrder begin (stretches_in mode begin close text) close
  pub wrong : All (IsReported begin (escape_errors_in_file mode (between begin close text)))
      (stretches_in mode begin close text)
  pub all : list_all (λ (e : Error). is_in (stretches_in mode begin close text) (begin + e.0.start))
      (escape_errors_in_file mode (between begin close text)) ≡ true
  pub shown : All (IsShown begin (stretches_in mode begin close text))
      (file_items (is_raw mode) (between begin close text))

-- Holds if the contents of strings are highlighted correctly, wherever they are in a text.
abbrev pub AreStringsHighlighted : Type 0
AreStringsHighlighted =
    (mode : Mode) (begin close : ℕ) (text : Utf8) → IsUtf8 text → IsCharBoundary text begin
    → IsCharBoundary text close → begin ≤ close → is_single mode ≡ false → IsHighlighted mode begin close text
