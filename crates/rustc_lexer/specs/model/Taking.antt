-- Model of the token that a cursor returns, and of the state after it.
use Rattle.std.specs.{Prelude.{◌≡◌, ◌+◌, ◌^◌, ◌<◌, ℕ, List, [], ◌∷◌, drop, length, if◌then◌else◌}, Str.{chars}}
use Rattle.rustc_lexer.specs.{Token, Eof}
use Rattle.rustc_lexer.specs.Classes.{IsText}
use Rattle.rustc_lexer.specs.LanguageText.{Mode, source, newest, part, mode_after, mode_edition}
use Rattle.rustc_lexer.specs.State.{State, token_past}
use Rattle.rustc_lexer.specs.model.Edition.{first_token_in}
use Rattle.rustc_lexer.specs.model.Frontmatter.{frontmatter, opens}

-- Returns the first token of a text, which is a frontmatter if source starts with one.
abbrev pub token_at : Mode → List ℕ → Token
token_at (part edition) text = first_token_in edition text
token_at (source edition) text =
    if opens (chars text) then frontmatter text else first_token_in edition text

-- Returns the next token of a state, and the state after it. At the end of the text, the token has length 0 and the
-- state does not change.
abbrev pub advance_by : List ℕ → State → Token × State
advance_by [] s = (record { kind = Eof; len = 0 }, s)
advance_by (b ∷ bs) s = (
  token_past s.pending (token_at s.mode s.rest),
  record {
    pending = 0;
    rest = drop (token_at s.mode s.rest).len s.rest;
    mode = mode_after s.mode (token_at s.mode s.rest).kind;
  },
)

unfoldable pub take_next : State → Token × State
take_next s = advance_by s.rest s

-- Holds if this iterator and the number of pending bytes belong to a cursor. The iterator lexes with the newest
-- edition, and the text that is left fits in 32 bits together with the pending bytes.
pub record IsCursor (pending : ℕ) (tokens : State) : Type 0 where
  pub alone : tokens.pending ≡ 0
  pub newest : mode_edition tokens.mode ≡ newest
  pub text : IsText tokens.rest
  pub fits : pending + length tokens.rest < 2 ^ 32
