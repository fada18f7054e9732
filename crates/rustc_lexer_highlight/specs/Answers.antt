-- The stretches of a literal, under the name that contracts use. For a string, they come from a value whose type states
-- that exactly these stretches are allowed. The proof is in laws/Literal.antt.
use Rattle.std.specs.Prelude.{ℕ, if◌then◌else◌, List, [], map, Option, Some, None}
use Rattle.std.specs.List.{between}
use Rattle.std.specs.Str.{chars}
use Rattle.rustc_lexer.specs.Classes.{Utf8}
use Rattle.rustc_literal_escaper.specs.Grammar.{TheOnly}
use Rattle.rustc_literal_escaper.specs.Meaning.{is_single}
use Rattle.rustc_literal_escaper.specs.declared.mode.Mode.{Mode}
use Rattle.rustc_lexer_errors.specs.LineEnds.{unix}
use Rattle.rustc_lexer_errors.specs.Literal.{contents_places}
use Rattle.rustc_lexer_highlight.specs.Literal.{AreStretches, Stretch, moved_stretch, single_stretches}
use Rattle.rustc_lexer_highlight.specs.laws.Literal.{the_stretches}

-- Returns the stretches of a string: the stretches of the contents with LF line endings, with their ranges in the
-- literal.
abbrev pub string_stretches : Mode → ℕ → ℕ → Utf8 → List Stretch
string_stretches mode begin close text =
    let contents = between begin close text in
    let the : TheOnly (Unit {0}) (AreStretches mode 0 (chars (unix contents))) =
    the_stretches mode 0 (chars (unix contents)) in
    map (moved_stretch begin contents) the.answer

abbrev pub stretches_in : Mode → ℕ → ℕ → Utf8 → List Stretch
stretches_in mode begin close text =
    if is_single mode then single_stretches mode begin close text
    else string_stretches mode begin close text

abbrev pub stretches_by : Mode → Option (ℕ × ℕ) → Utf8 → List Stretch
stretches_by mode None text = []
stretches_by mode (Some places) text = stretches_in mode places.0 places.1 text

abbrev pub stretches_of : Mode → Utf8 → List Stretch
stretches_of mode text = stretches_by mode (contents_places mode text) text
