-- The statuses that calls return to C.
use Rattle.std.specs.Prelude.{ℕ, ◌≡◌, ◌≢◌, ◌<◌, ◌≤◌, ◌^◌, List, length, Some, None}
use Rattle.std.specs.Str.{IsCharBoundary, IsUtf8}
use Rattle.rustc_lexer.specs.declared.edition.Edition.{Edition}
use Rattle.rustc_lexer.specs.Classes.{IsText}
use Rattle.rustc_lexer.specs.LanguageCalls.{edition_of_year}
use Rattle.rustc_lexer_c.specs.declared.status.Refusal.{Refusal}
use Rattle.rustc_lexer_c.specs.declared.status.Refusal.TheVariants.{NotUtf8, TooLong, InvalidPlace, NotRaw, InvalidEdition}
use Rattle.rustc_lexer_c.specs.declared.status.Refusal.TheVariants.{InvalidEdit, InvalidMode, InvalidFormat, SmallBuffer}

-- The status 0 means that the call succeeded.
abbrev pub OK : ℕ
OK = 0

abbrev pub refusal_number : Refusal → ℕ
refusal_number NotUtf8 = 1
refusal_number TooLong = 2
refusal_number InvalidPlace = 3
refusal_number NotRaw = 4
refusal_number InvalidEdition = 5
refusal_number InvalidEdit = 6
refusal_number InvalidMode = 7
refusal_number InvalidFormat = 8
refusal_number SmallBuffer = 9

-- Holds if these bytes cannot be lexed for this reason. The length is checked before UTF-8.
abbrev pub IsNoText : List ℕ → Refusal → Type 0
IsNoText bytes TooLong = 2 ^ 32 ≤ length bytes
IsNoText bytes NotUtf8 = (length bytes < 2 ^ 32) × ¬ (IsUtf8 bytes)
IsNoText bytes refusal = ⊥

-- Holds if a call that requires a text that can be lexed, and a condition, returns this status. If only the condition
-- fails, the status is `number`.
pub record IsStatus (bytes : List ℕ) (Asked : Type 0) (number status : ℕ) : Type 0 where
  pub ok : IsText bytes → Asked → status ≡ OK
  pub not_utf8 : length bytes < 2 ^ 32 → ¬ (IsUtf8 bytes) → status ≡ refusal_number NotUtf8
  pub too_long : 2 ^ 32 ≤ length bytes → status ≡ refusal_number TooLong
  pub refused : IsText bytes → ¬ Asked → status ≡ number

-- Holds if a call that accepts every text that can be lexed returns this status.
abbrev pub IsTextStatus : List ℕ → ℕ → Type 0
IsTextStatus bytes status = IsStatus bytes (Unit {0}) OK status

-- Holds if a call that gets a text, an offset in it and a year returns this status.
pub record IsPlaceStatus (bytes : List ℕ) (at year status : ℕ) : Type 0 where
  pub ok : IsText bytes → IsCharBoundary bytes at → (edition : Edition)
      → edition_of_year year ≡ Some edition → status ≡ OK
  pub not_utf8 : length bytes < 2 ^ 32 → ¬ (IsUtf8 bytes) → status ≡ refusal_number NotUtf8
  pub too_long : 2 ^ 32 ≤ length bytes → status ≡ refusal_number TooLong
  pub invalid_place : IsText bytes → ¬ (IsCharBoundary bytes at) → status ≡ refusal_number InvalidPlace
  pub invalid_edition : IsText bytes → IsCharBoundary bytes at → edition_of_year year ≡ None
      → status ≡ refusal_number InvalidEdition

-- A call with such a status writes its answer, or `none` if it fails.
pub record Writes {X : Type 0} (bytes : List ℕ) (Asked : Type 0) (number : ℕ)
    (answer none written : X) (status : ℕ) : Type 0 where
  pub status_is : IsStatus bytes Asked number status
  pub answer_is : status ≡ OK → written ≡ answer
  pub none_is : status ≢ OK → written ≡ none
