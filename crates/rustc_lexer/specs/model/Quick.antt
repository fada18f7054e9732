-- Model of the first token of a text, as far as its bytes determine it.
use Rattle.std.specs.Prelude.{ℕ, Bool, List, ◌∷◌, ◌≡◌, ◌≢◌, ◌≤◌, ◌||◌, ◌==◌, nat_le, length}
use Rattle.std.specs.Str.{chars, IsCharBoundary}
use Rattle.rustc_lexer.specs.declared.lexemes.family.Family.TheVariants.{Hash}
use Rattle.rustc_lexer.specs.{Edition, Token}
use Rattle.rustc_lexer.specs.model.ByteRuns.{is_wide}
use Rattle.rustc_lexer.specs.Classes.{ends_prefix}
use Rattle.rustc_lexer.specs.model.Edition.{first_token_in}
use Rattle.rustc_lexer.specs.model.Lexeme.{family_of, first_token}
use Rattle.rustc_lexer.specs.LanguageText.{year}
use Rattle.rustc_lexer.specs.State.{HasSuffixWithin}

-- Holds if the token is the first token of the text, and can be removed from it.
pub record IsFirstToken (text : List ℕ) (t : Token) : Type 0 where
  pub token : t ≡ first_token text
  pub inside : t.len ≤ length text
  pub boundary : IsCharBoundary text t.len
  pub suffix : HasSuffixWithin t

-- Holds if the token is the first token of the text, and can be removed from it, in each edition that reserves guarded
-- strings, or in each edition that does not.
pub record IsFirstBy (guards : Bool) (text : List ℕ) (t : Token) : Type 0 where
  pub token : (edition : Edition) → nat_le 2024 (year edition) ≡ guards
      → t ≡ first_token_in edition text
  pub inside : t.len ≤ length text
  pub boundary : IsCharBoundary text t.len
  pub suffix : HasSuffixWithin t

-- Holds if the text does not start with a hash.
abbrev pub BeginsWithNoHash : List ℕ → Type 0
BeginsWithNoHash text = (first : ℕ) (cs : List ℕ) → chars text ≡ first ∷ cs → family_of first ≢ Hash

-- Whether a word before this byte can be something other than an identifier, or can continue.
abbrev pub turns_word : ℕ → Bool
turns_word b = is_wide b || ends_prefix b

-- Whether whitespace that is not ASCII can start with this byte.
abbrev pub is_space_lead : ℕ → Bool
is_space_lead b = (b == 0xC2) || (b == 0xE2)
