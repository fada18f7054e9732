-- Escaping: the output, and that it reads back as the input.
use Rattle.std.specs.Prelude.{◌≡◌, ℕ, ◌<◌, false, List, ◌++◌, map, Result, Ok}
use Rattle.std.specs.Char.{IsScalar}
use Rattle.std.specs.Char.Escape.{escape_ascii, escape_default}
use Rattle.std.specs.List.{flat_map}
use Rattle.std.specs.Str.{chars}
use Rattle.rustc_literal_escaper.specs.declared.element.Element.{Element}
use Rattle.rustc_literal_escaper.specs.declared.error.EscapeError.{EscapeError}
use Rattle.rustc_literal_escaper.specs.Answers.{byte_literal, char_literal, items_of}

-- Holds if the output of `char::escape_default` for any character reads back as that character.
abbrev pub CharComesBack : Type 0
CharComesBack = (c : ℕ) → IsScalar c → char_literal (escape_default c) ≡ Ok c

-- Holds if the output of `u8::escape_ascii` for any byte reads back as that byte.
abbrev pub ByteComesBack : Type 0
ByteComesBack = (b : ℕ) → b < 256 → byte_literal (escape_ascii b) ≡ Ok b

-- Returns the text with each character escaped by `char::escape_default`.
abbrev pub written_text : List ℕ → List ℕ
written_text text = flat_map escape_default (chars text)

-- Returns the bytes with each of them escaped by `u8::escape_ascii`.
abbrev pub written_bytes : List ℕ → List ℕ
written_bytes bytes = flat_map escape_ascii bytes

-- Holds if the text, between double quotes, has these units as its value, in order, without errors and without
-- warnings.
abbrev pub StandsFor : {U : Type 0} → (Element → Result U EscapeError) → List ℕ → List U → Type 0
StandsFor meaning text units = map (λ item. meaning item.1) (items_of false text) ≡ map Ok units

-- Holds if `new` is `old` with some bytes appended.
abbrev pub Grows : List ℕ → List ℕ → Type 0
Grows old new = (more : List ℕ) × (new ≡ old ++ more)
