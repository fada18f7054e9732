-- Highlighted tokens, as C sees them: the numbers of the formats, and the status of the call.
use Rattle.std.specs.Prelude.{ℕ, ◌≡◌, ◌≤◌, ◌<◌, ◌^◌, ◌⊎◌, nat_eq, if◌then◌else◌, List, length, take, drop, Option, Some}
use Rattle.std.specs.Prelude.{None}
use Rattle.std.specs.Str.{IsUtf8}
use Rattle.rustc_lexer.specs.declared.edition.Edition.{Edition}
use Rattle.rustc_lexer.specs.LanguageCalls.{edition_of_year}
use Rattle.rustc_lexer.specs.Classes.{IsText}
use Rattle.rustc_lexer_highlight.specs.declared.format.Format.{Format}
use Rattle.rustc_lexer_highlight.specs.declared.format.Format.TheVariants.{Html, Colours, NoColours}
use Rattle.rustc_lexer_c.specs.declared.status.Refusal.TheVariants.{InvalidEdition, InvalidFormat, NotUtf8, SmallBuffer}
use Rattle.rustc_lexer_c.specs.declared.status.Refusal.TheVariants.{TooLong}
use Rattle.rustc_lexer_c.specs.Status.{OK, refusal_number}

-- Returns the format with this number. Numbers never change: a new format gets a new number.
abbrev pub format_of : ℕ → Option Format
format_of number =
    if nat_eq number 1 then Some Html
    else if nat_eq number 2 then Some Colours
    else if nat_eq number 3 then Some NoColours
    else None

-- Holds if the bytes are at the start of the buffer, and the rest of it is unchanged.
pub record IsFront (bytes buffer filled : List ℕ) (written : ℕ) : Type 0 where
  pub within : written ≤ length filled
  pub front : take written filled ≡ bytes
  pub rest : drop written filled ≡ drop written buffer

-- Holds if a call that gets a text, a format, a year and a buffer of any length returns this status.
pub record IsMarksStatus (bytes : List ℕ) (format year : ℕ) (status : ℕ) : Type 0 where
  pub ok : IsText bytes → (edition : Edition) → edition_of_year year ≡ Some edition → (kind : Format)
      → format_of format ≡ Some kind → (status ≡ OK) ⊎ (status ≡ refusal_number SmallBuffer)
  pub not_utf8 : length bytes < 2 ^ 32 → ¬ (IsUtf8 bytes) → status ≡ refusal_number NotUtf8
  pub too_long : 2 ^ 32 ≤ length bytes → status ≡ refusal_number TooLong
  pub invalid_edition : IsText bytes → edition_of_year year ≡ None → status ≡ refusal_number InvalidEdition
  pub invalid_format : IsText bytes → (edition : Edition) → edition_of_year year ≡ Some edition
      → format_of format ≡ None → status ≡ refusal_number InvalidFormat
