-- The error of a token as a number, and its message.
use Rattle.std.specs.Prelude.{ℕ, ◌≡◌, ◌≤◌, ◌<◌, ◌^◌, ◌⊎◌, List, [], length, Option, Some, None}
use Rattle.std.specs.Str.{IsUtf8}
use Rattle.rustc_lexer.specs.Classes.{IsText}
use Rattle.rustc_lexer.specs.declared.edition.Edition.{Edition}
use Rattle.rustc_lexer.specs.LanguageCalls.{edition_of_year}
use Rattle.rustc_lexer_errors.specs.declared.errors.TokenError.{TokenError}
use Rattle.rustc_lexer_errors.specs.TokenError.{error_number, message}
use Rattle.rustc_lexer_c.specs.declared.status.Refusal.TheVariants.{InvalidEdition, NotUtf8, SmallBuffer, TooLong}
use Rattle.rustc_lexer_c.specs.Status.{OK, refusal_number}

-- Returns the number of an error, or 0 if there is none.
abbrev pub number_of : Option TokenError → ℕ
number_of None = 0
number_of (Some error) = error_number error

-- Returns the message of an error, or an empty text if there is none.
abbrev pub message_of : Option TokenError → List ℕ
message_of None = []
message_of (Some error) = message error

-- Holds if a call with a text, a year and a buffer of any length returns this status.
pub record IsMessageStatus (bytes : List ℕ) (year status : ℕ) : Type 0 where
  pub ok : IsText bytes → (edition : Edition) → edition_of_year year ≡ Some edition
      → (status ≡ OK) ⊎ (status ≡ refusal_number SmallBuffer)
  pub not_utf8 : length bytes < 2 ^ 32 → ¬ (IsUtf8 bytes) → status ≡ refusal_number NotUtf8
  pub too_long : 2 ^ 32 ≤ length bytes → status ≡ refusal_number TooLong
  pub invalid_edition : IsText bytes → edition_of_year year ≡ None → status ≡ refusal_number InvalidEdition
