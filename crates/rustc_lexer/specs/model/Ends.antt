-- Model of the ends of runs of bytes, as the bits of a number, and of the tokens that they determine.
use Rattle.std.specs.Prelude.{◌+◌, ◌-◌, ◌^◌, drop, ℕ, zero, suc, Bool, true, false, not, ◌&&◌, ◌||◌, ◌==◌, ◌≡◌, ◌<◌}
use Rattle.std.specs.Prelude.{◌≤◌, nat_lt, List, length, slice_index, if◌then◌else◌, Option, Some, None}
use Rattle.std.specs.Int.{bit_at}
use Rattle.rustc_lexer.specs.declared.entry.ahead.Ahead.{Ahead}
use Rattle.rustc_lexer.specs.declared.lexemes.family.Family.{Family}
use Rattle.rustc_lexer.specs.declared.lexemes.family.Family.TheVariants.{Space, Symbol, Word}
use Rattle.std.specs.Str.{IsCharBoundary, IsUtf8}
use Rattle.rustc_lexer.specs.{Edition, FrontmatterAllowed, Token, TokenKind, Ident, No, Whitespace}
use Rattle.rustc_lexer.specs.Classes.{Fits}
use Rattle.rustc_lexer.specs.model.ByteRuns.{is_continue_byte, is_space_byte}
use Rattle.rustc_lexer.specs.model.Edition.{first_token_in}
pub use Rattle.rustc_lexer.specs.model.Lexeme.{family_of, symbol_kind}
use Rattle.rustc_lexer.specs.model.Quick.{is_space_lead, turns_word}

unfoldable pub bit : ℕ → ℕ → Bool
bit m k = bit_at m k == 1

-- Whether both bytes continue a word, or both are whitespace.
abbrev pub goes_on : ℕ → ℕ → Bool
goes_on a b = (is_continue_byte a && is_continue_byte b) || (is_space_byte a && is_space_byte b)

-- Whether byte k does not continue the run of the byte before it.
abbrev pub is_end : List ℕ → ℕ → Bool
is_end text zero = false
is_end text (suc k) = not (goes_on (slice_index text k) (slice_index text (suc k)))

-- Holds if the bits are the ends of runs, up to the highest bit that is set.
abbrev pub IsEnds : List ℕ → ℕ → Type 0
IsEnds text m =
    (j : ℕ) → bit m j ≡ true → (j < length text) × ((k : ℕ) → k ≤ j → bit m k ≡ is_end text k)

-- Holds if the bits are the ends of runs after the index `from`, up to the highest bit that is set, and no bit up to
-- `from` is set.
abbrev pub AreEndsPast : List ℕ → ℕ → ℕ → Type 0
AreEndsPast text from m =
    (j : ℕ) → bit m j ≡ true
    → (from < j) × (j < length text) × ((k : ℕ) → from < k → k ≤ j → bit m k ≡ is_end text k)

-- Holds if the bits after `from` are the ends of runs, up to the highest bit that is set. The bits up to `from` can
-- belong to tokens that were already returned.
abbrev pub TellEndsPast : List ℕ → ℕ → ℕ → Type 0
TellEndsPast text from m =
    (j : ℕ) → from < j → bit m j ≡ true
    → (j < length text) × ((k : ℕ) → from < k → k ≤ j → bit m k ≡ is_end text k)

pub record IsLowest (m low : ℕ) : Type 0 where
  pub set : bit m low ≡ true
  pub least : (k : ℕ) → k < low → bit m k ≡ false

-- Returns the kind of a token if its first character, which is ASCII, and its run determine it.
abbrev pub classified_in : Family → ℕ → Option TokenKind
classified_in Word c = Some Ident
classified_in Space c = Some Whitespace
classified_in Symbol c = Some (symbol_kind c)
classified_in other c = None

abbrev pub classified : ℕ → Option TokenKind
classified b = if nat_lt b 128 then classified_in (family_of b) b else None

-- Holds if this byte, after a token of the kind, neither changes the kind nor continues the token.
pub record StaysWithin (kind : TokenKind) (next : ℕ) : Type 0 where
  pub word : kind ≡ Ident → turns_word next ≡ false
  pub space : kind ≡ Whitespace → is_space_lead next ≡ false

-- Holds if the next token is of this kind, provided that the lowest bit that is set determines it.
pub record IsClassified (text : List ℕ) (at block ends : ℕ) (kind : TokenKind) : Type 0 where
  pub tells : classified (slice_index text at) ≡ Some kind
  pub ahead : AreEndsPast (drop block text) (at - block) ends

-- Holds if `ahead` describes the text from its offset on. The bits are for the bytes from `block` on.
pub record TellsAhead (text : List ℕ) (ahead : Ahead) : Type 0 where
  pub fits : Fits text
  pub bound : IsCharBoundary text ahead.at
  pub behind : ahead.block ≤ ahead.at
  pub small : ahead.ends < 2 ^ 64
  pub past : TellEndsPast (drop ahead.block text) (ahead.at - ahead.block) ahead.ends
  pub next : (kind : TokenKind) → ahead.classified ≡ Some kind
      → IsClassified text ahead.at ahead.block ahead.ends kind

-- Holds if no token is determined at the offset.
pub record IsUnclassified (text : List ℕ) (old new : Ahead) : Type 0 where
  pub at : new.at ≡ old.at
  pub classified : new.classified ≡ None
  pub tells : TellsAhead text new

-- Holds if the token that is determined at the offset is the first token of the text that is left, in each edition, and
-- the offset moves to its end.
pub record TakesClassified (text : List ℕ) (old new : Ahead) (token : Token) : Type 0 where
  pub utf8 : IsUtf8 text
  pub classified : old.classified ≡ Some token.kind
  pub some : old.at < length text
  pub first : (edition : Edition) → token ≡ first_token_in edition (drop old.at text)
  pub offset : new.at ≡ old.at + token.len
  pub tells : TellsAhead text new

-- Holds if `ahead` describes the text, and determines tokens in advance only in a fragment.
pub record KnowsAhead (allowed : FrontmatterAllowed) (text : List ℕ) (ahead : Ahead) : Type 0 where
  pub tells : TellsAhead text ahead
  pub part : (kind : TokenKind) → ahead.classified ≡ Some kind → allowed ≡ No
