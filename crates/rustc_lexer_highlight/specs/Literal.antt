-- The contents of a terminated literal, divided into pieces: elements and skipped line endings. A piece that is an
-- escape or an error is a *stretch* of the literal; the rest is plain text. `w` is the text of a piece, and `next` is
-- all of the text after it, up to the closing quote.
use Rattle.std.specs.Prelude.{◌≡◌, ◌+◌, ◌-◌, ℕ, take, drop, codes, Bool, true, false, if◌then◌else◌, List, [], ◌∷◌}
use Rattle.std.specs.Prelude.{◌++◌, Option, Some, None, nat_eq}
use Rattle.std.specs.Char.{is_whitespace}
use Rattle.std.specs.List.{between, list_all, list_any, starts_with}
use Rattle.rustc_lexer.specs.Classes.{Chars, Utf8, bytes, next_is}
use Rattle.rustc_literal_escaper.specs.declared.element.Element.{Element}
use Rattle.rustc_literal_escaper.specs.declared.element.Element.TheVariants.{Plain}
use Rattle.rustc_literal_escaper.specs.declared.error.EscapeError.{EscapeError}
use Rattle.rustc_literal_escaper.specs.declared.error.EscapeError.TheVariants.{MultipleSkippedLinesWarning}
use Rattle.rustc_literal_escaper.specs.declared.error.EscapeError.TheVariants.{UnskippedWhitespaceWarning}
use Rattle.rustc_literal_escaper.specs.declared.mode.Mode.{Mode}
use Rattle.rustc_literal_escaper.specs.Grammar.{IsElementBefore, IsRawElement, is_newline, is_passed_over}
use Rattle.rustc_literal_escaper.specs.Meaning.{error_of, is_raw}
use Rattle.rustc_lexer_highlight.specs.declared.class.Class.TheVariants.{Text, Escape as EscapeClass}
use Rattle.rustc_lexer_errors.specs.declared.errors.TokenError.TheVariants.{InLiteral}
use Rattle.rustc_lexer_highlight.specs.declared.literal.Look.{Look}
use Rattle.rustc_lexer_highlight.specs.declared.literal.Look.TheVariants.{Escape, Wrong}
use Rattle.rustc_lexer_errors.specs.LineEnds.{char_error, place}
use Rattle.rustc_lexer_highlight.specs.Part.{Part, Own, error_parts}

-- ---- the pieces between the quotes

abbrev pub is_plain : Element → Bool
is_plain (Plain c) = true
is_plain element = false

-- Relates an element to its look: an error, an escape, or plain (`None`).
pub data Looks (mode : Mode) (element : Element) : Option Look → Type 0 where
  wrong : {error : EscapeError}
      → error_of mode element ≡ Some error
      → Looks mode element (Some (Wrong error))
  plain : error_of mode element ≡ None
      → is_plain element ≡ true
      → Looks mode element None
  escape : error_of mode element ≡ None
      → is_plain element ≡ false
      → Looks mode element (Some Escape)

-- Holds if w is a piece with this look, when `next` follows it: an element, or a skipped line ending with a warning.
pub data IsPieceBefore (mode : Mode) (next : Chars)
    : (raw : Bool) → Option Look → Chars → Type 0 where
  element : {element : Element} {look : Option Look} {w : Chars}
      → IsElementBefore (codes "\"") next element w
      → (w ≡ codes "\\\n" → ⊥)
      → Looks mode element look
      → IsPieceBefore mode next false look w
  raw_element : {element : Element} {look : Option Look} {c : ℕ}
      → IsRawElement element c
      → Looks mode element look
      → IsPieceBefore mode next true look (c ∷ [])
  -- A backslash at the end of a line, if the whitespace that it skips contains another newline.
  lines : (space : Chars)
      → list_all is_passed_over space ≡ true
      → list_any is_newline space ≡ true
      → next_is is_passed_over next ≡ false
      → IsPieceBefore mode next false (Some (Wrong MultipleSkippedLinesWarning))
      (codes "\\\n" ++ space)
  -- Otherwise, if whitespace that is not skipped follows, the piece includes its first character.
  white_space : (space : Chars) (c : ℕ)
      → list_all is_passed_over space ≡ true
      → list_any is_newline space ≡ false
      → is_whitespace c ≡ true
      → is_passed_over c ≡ false
      → IsPieceBefore mode next false (Some (Wrong UnskippedWhitespaceWarning))
      (codes "\\\n" ++ (space ++ c ∷ []))

-- Holds for consecutive line endings without a warning, each with the whitespace that is skipped after it.
pub data AreSkippedBefore (next : Chars) : (raw : Bool) → Chars → Type 0 where
  none : {raw : Bool} → AreSkippedBefore next raw []
  more : {w : Chars} (space : Chars)
      → list_all is_passed_over space ≡ true
      → list_any is_newline space ≡ false
      → next_is is_whitespace (w ++ next) ≡ false
      → AreSkippedBefore next false w
      → AreSkippedBefore next false (codes "\\\n" ++ (space ++ w))

abbrev pub Piece : Type 0
Piece = Chars × Option Look

-- Returns the characters as one piece, an escape. The empty text has no piece.
abbrev pub skipped : Chars → List Piece
skipped [] = []
skipped (c ∷ w) = (c ∷ w, Some Escape) ∷ []

-- Relates the contents of a string to their pieces.
pub data ArePieces (mode : Mode) (raw : Bool) : Chars → List Piece → Type 0 where
  last : {gap : Chars} → AreSkippedBefore [] raw gap → ArePieces mode raw gap (skipped gap)
  more : {gap w next : Chars} {look : Option Look} {pieces : List Piece}
      → AreSkippedBefore (w ++ next) raw gap
      → IsPieceBefore mode next raw look w
      → ArePieces mode raw next pieces
      → ArePieces mode raw (gap ++ (w ++ next)) (skipped gap ++ (w, look) ∷ pieces)

-- ---- the stretches, each with its range in the literal

pub record Stretch : Type 0 where
  pub start : ℕ
  pub end : ℕ
  pub look : Look

abbrev pub stretch : ℕ → ℕ → Option Look → List Stretch
stretch start end None = []
stretch start end (Some look) = record { start = start; end = end; look = look } ∷ []

-- Returns the stretches of pieces that start at the offset `from`. A plain piece has none.
abbrev pub stretches_at : ℕ → List Piece → List Stretch
stretches_at from [] = []
stretches_at from (piece ∷ pieces) =
    stretch from (from + bytes piece.0) piece.1 ++ stretches_at (from + bytes piece.0) pieces

-- Relates the contents of a string, which start at the offset `begin`, to their stretches.
pub data AreStretches (mode : Mode) (begin : ℕ) (text : Chars) : List Stretch → Type 0 where
  made : {pieces : List Piece}
      → ArePieces mode (is_raw mode) text pieces
      → AreStretches mode begin text (stretches_at begin pieces)

-- Converts a stretch of the contents with LF line endings to a stretch of the literal, whose contents start at the
-- offset `begin` and can have CRLF line endings.
abbrev pub moved_stretch : ℕ → Utf8 → Stretch → Stretch
moved_stretch begin contents s = record {
  start = begin + place contents s.start;
  end = begin + place contents s.end;
  look = s.look;
}

abbrev pub char_look : Option EscapeError → Utf8 → Option Look
char_look (Some error) contents = Some (Wrong error)
char_look None contents = if starts_with nat_eq contents (codes "\\") then Some Escape else None

-- Returns the stretches between single quotes: the contents are one stretch if they are an error or an escape.
abbrev pub single_stretches : Mode → ℕ → ℕ → Utf8 → List Stretch
single_stretches mode begin close text =
    let contents = between begin close text in
    stretch begin close (char_look (char_error mode contents) contents)

-- ---- the parts

abbrev pub look_parts : Look → Utf8 → List Part
look_parts Escape text = Own EscapeClass text ∷ []
look_parts (Wrong error) text = error_parts (InLiteral error) Text text

-- Returns the parts of the rest of a literal, from the offset `at` on: its stretches, and the plain text around them.
abbrev pub parts_from : ℕ → Utf8 → List Stretch → List Part
parts_from at left [] = Own Text left ∷ []
parts_from at left (s ∷ ss) =
    let plain = take (s.start - at) left in
    let rest = drop (s.start - at) left in
    Own Text plain
    ∷ (look_parts s.look (take (s.end - s.start) rest)
    ++ parts_from s.end (drop (s.end - s.start) rest) ss)
