-- The model of highlighting a literal: the code finds its stretches in the items of its contents.
use Rattle.std.specs.Prelude.{◌≡◌, ℕ, ◌+◌, ◌≤◌, nat_lt, if◌then◌else◌, List, [], ◌∷◌, ◌++◌, drop, Option, Some, None}
use Rattle.std.specs.{Fmt.{WritesInCalls}, List.{between}, Str.{IsCharBoundary}}
use Rattle.rustc_lexer.specs.Classes.{Utf8}
use Rattle.rustc_literal_escaper.specs.declared.element.Element.{Element}
use Rattle.rustc_literal_escaper.specs.declared.element.Element.TheVariants.{Plain}
use Rattle.rustc_literal_escaper.specs.declared.error.EscapeError.{EscapeError}
use Rattle.rustc_literal_escaper.specs.declared.mode.Mode.{Mode}
use Rattle.rustc_literal_escaper.specs.Grammar.{Item}
use Rattle.rustc_literal_escaper.specs.Meaning.{error_of, is_raw}
use Rattle.rustc_lexer_highlight.specs.declared.literal.Look.{Look}
use Rattle.rustc_lexer_highlight.specs.declared.literal.Look.TheVariants.{Escape, Wrong}
use Rattle.rustc_lexer_highlight.specs.declared.literal.Painter.{Painter}
use Rattle.rustc_lexer_highlight.specs.declared.format.Format.{Format}
use Rattle.rustc_lexer_errors.specs.LineEnds.{file_items}
use Rattle.rustc_lexer_highlight.specs.Literal.{Stretch, parts_from, stretch}
use Rattle.rustc_lexer_highlight.specs.Part.{with_markup}

-- Returns the look of an element with this error.
abbrev pub look_by : Option EscapeError → Element → Option Look
look_by (Some error) element = Some (Wrong error)
look_by None (Plain c) = None
look_by None element = Some Escape

abbrev pub element_look : Mode → Element → Option Look
element_look mode element = look_by (error_of mode element) element

-- Returns the stretch between two elements: a backslash at the end of a line and the whitespace that it skips.
abbrev pub gap : ℕ → ℕ → List Stretch
gap at start = if nat_lt at start then stretch at start (Some Escape) else []

-- Returns the stretches from the offset `at` up to `close`, by the items of contents that start at the offset `begin`.
-- An item that starts before `at` has already been reported.
abbrev pub stretches_from : Mode → ℕ → ℕ → ℕ → List Item → List Stretch
stretches_from mode begin at close [] = gap at close
stretches_from mode begin at close (item ∷ items) =
    if nat_lt (begin + item.0.start) at then stretches_from mode begin at close items
    else gap at (begin + item.0.start)
    ++ (stretch (begin + item.0.start) (begin + item.0.end) (element_look mode item.1)
    ++ stretches_from mode begin (begin + item.0.end) close items)

-- Returns the stretches of a string, whose contents are the text from `begin` to `close`.
abbrev pub string_stretches : Mode → ℕ → ℕ → Utf8 → List Stretch
string_stretches mode begin close text =
    stretches_from mode begin begin close (file_items (is_raw mode) (between begin close text))

-- Holds if a writer that has written the literal up to the offset `shown` writes these stretches, and has then written
-- it up to `to`: whatever stretches follow, writing them too completes the literal.
abbrev pub WritesOn : {W : Type 0} → (W → List ℕ → W → Type 0) → Format → Utf8
    → W → ℕ → List Stretch → W → ℕ → Type 0
WritesOn {W} took format text old shown stretches new to =
    (more : List Stretch) (last : W)
    → WritesInCalls took new (with_markup format (parts_from to (drop to text) more)) last
    → WritesInCalls took old
    (with_markup format (parts_from shown (drop shown text) (stretches ++ more))) last

-- Holds if both offsets are char boundaries, and are in order.
pub record IsCut (text : Utf8) (shown at : ℕ) : Type 0 where
  pub first : IsCharBoundary text shown
  pub second : IsCharBoundary text at
  pub order : shown ≤ at

-- Holds if a painter has advanced to the offset `end` and has written these stretches.
pub record Paints {W : Type 0} (took : W → List ℕ → W → Type 0) (old : Painter) (before : W)
    (stretches : List Stretch) (end : ℕ) (new : Painter) (after : W) : Type 0 where
  pub format : new.format ≡ old.format
  pub text : new.text.now ≡ old.text.now
  pub cut : IsCut new.text.now new.shown new.at
  pub at : new.at ≡ end
  pub writes : WritesOn took old.format old.text.now before old.shown stretches after new.shown
