-- Batches of tokens: a call writes as many tokens as the buffer has room for, and the position of the next batch.
use Rattle.std.specs.Prelude.{ℕ, zero, suc, ◌≡◌, ◌≢◌, List, [], ◌∷◌, ◌++◌, length, map, take, drop, min, Some}
use Rattle.std.specs.Str.{IsCharBoundary}
use Rattle.rustc_lexer.specs.declared.edition.Edition.{Edition}
use Rattle.rustc_lexer.specs.declared.token.FrontmatterAllowed.{FrontmatterAllowed}
use Rattle.rustc_lexer.specs.declared.token.FrontmatterAllowed.TheVariants.{Yes, No}
use Rattle.rustc_lexer.specs.declared.token.Token.{Token}
pub use Rattle.rustc_lexer.specs.Tokens.{state_past}
use Rattle.rustc_lexer.specs.LanguageCalls.{edition_of_year}
use Rattle.rustc_lexer.specs.LanguageText.{Mode, source, newest, part, mode_edition, mode_in}
use Rattle.rustc_lexer.specs.State.{State}
use Rattle.rustc_lexer.specs.Tokens.{tokens_left}
use Rattle.rustc_lexer_c.specs.declared.batch.CPlace.{CPlace}
use Rattle.rustc_lexer_c.specs.declared.token.CToken.{CToken}
use Rattle.rustc_lexer_c.specs.Numbers.{token_numbers}
use Rattle.rustc_lexer_c.specs.declared.status.Refusal.TheVariants.{InvalidPlace}
use Rattle.rustc_lexer_c.specs.Status.{IsPlaceStatus, IsStatus, OK, refusal_number}

-- Returns the flag with this number: 0 is `No`, and any other number is `Yes`.
abbrev pub allowed_of : ℕ → FrontmatterAllowed
allowed_of zero = No
allowed_of (suc n) = Yes

abbrev pub allowed_number : FrontmatterAllowed → ℕ
allowed_number No = 0
allowed_number Yes = 1

-- Returns whether the rest of the text can start with a frontmatter: 1 at the start of a document, 0 in a fragment.
abbrev pub mode_number : Mode → ℕ
mode_number (source edition) = 1
mode_number (part edition) = 0

-- If there is no token, all fields are 0.
abbrev pub no_token : CToken
no_token = record { kind = 0; first = 0; second = 0; third = 0; suffix_start = 0; len = 0 }

-- Returns the first of the tokens as numbers, or zeros if there is none.
abbrev pub first_numbers : List Token → CToken
first_numbers [] = no_token
first_numbers (token ∷ tokens) = token_numbers token

-- Returns the state of a cursor at a position, in an edition and with nothing pending.
abbrev pub state_at : Edition → List ℕ → CPlace → State
state_at edition text place = record {
  pending = 0;
  rest = drop place.at text;
  mode = mode_in (allowed_of place.frontmatter_allowed) edition;
}

-- Holds if a call wrote the batch of the tokens that are left in a state. The buffer starts with these tokens as
-- numbers: all of them, or as many as there is room for. The rest of the buffer is unchanged. `place` is the position
-- of the next batch in the same edition, and exactly the remaining tokens are left there.
pub record IsBatch (text : List ℕ) (s : State) (buffer : List CToken) (place : CPlace)
    (filled : List CToken) (count : ℕ) : Type 0 where
  pub as_many : count ≡ min (length buffer) (length (tokens_left s))
  pub tokens : filled ≡ map token_numbers (take count (tokens_left s)) ++ drop count buffer
  pub boundary : IsCharBoundary text place.at
  pub rest : drop place.at text ≡ (state_past count s).rest
  pub allowed : place.frontmatter_allowed ≡ mode_number (state_past count s).mode
  pub left : tokens_left (state_at (mode_edition s.mode) text place) ≡ drop count (tokens_left s)

-- A call writes the tokens from a position on, in the newest edition. The offset of the position must be a char
-- boundary. If the call fails, the position and the buffer are unchanged, and the count is 0.
pub record TakesTokens (text : List ℕ) (place place' : CPlace) (buffer filled : List CToken)
    (count status : ℕ) : Type 0 where
  pub status_is : IsStatus text (IsCharBoundary text place.at) (refusal_number InvalidPlace) status
  pub batch : status ≡ OK → IsBatch text (state_at newest text place) buffer place' filled count
  pub refused : status ≢ OK → (place' ≡ place) × (filled ≡ buffer) × (count ≡ 0)

-- A call does the same in the edition of a year.
pub record TakesTokensIn (text : List ℕ) (year : ℕ) (place place' : CPlace)
    (buffer filled : List CToken) (count status : ℕ) : Type 0 where
  pub status_is : IsPlaceStatus text place.at year status
  pub batch : status ≡ OK → (edition : Edition) → edition_of_year year ≡ Some edition
      → IsBatch text (state_at edition text place) buffer place' filled count
  pub refused : status ≢ OK → (place' ≡ place) × (filled ≡ buffer) × (count ≡ 0)
