-- The state after a token.
use Rattle.std.proofs.Common.{◌≡◌, ℕ, ◌==◌, true, false, List, length, drop, ap, ◌∙◌, arith, zero-add, IsCharBoundary}
use Rattle.std.proofs.lemmas.{Bool.{eqb-true}, Grind.{common_steps}}
use Rattle.rustc_lexer.specs.{Token, TokenKind, Eof}
use Rattle.rustc_lexer.specs.LanguageText.{Mode, mode_after, mode_edition}
use Rattle.rustc_lexer.specs.State.{State, token_past}
use Rattle.rustc_lexer.specs.model.Taking.{token_at, take_next}

abbrev pub state : ℕ → List ℕ → Mode → State
state pending rest mode = record { pending = pending; rest = rest; mode = mode }

-- Holds if the rest of the text starts at `offset`, which is a char boundary.
abbrev pub StandsAt : List ℕ → ℕ → State → Type 0
StandsAt text offset s = IsCharBoundary text offset × (drop offset text ≡ s.rest)

abbrev pub past_token : List ℕ → Mode → Token → State
past_token rest mode token = state 0 (drop token.len rest) (mode_after mode token.kind)

pub past_token-is : (rest cut : List ℕ) (mode next : Mode) (token : Token) → cut ≡ drop token.len rest
    → next ≡ mode_after mode token.kind → state 0 cut next ≡ past_token rest mode token
past_token-is rest cut mode next token e f = ap (λ xs. state 0 xs next) e
    ∙ ap (λ (m : Mode). state 0 (drop token.len rest) m) f

-- The edition is the same after a token.
pub edition-after : (mode : Mode) (kind : TokenKind) → mode_edition (mode_after mode kind) ≡ mode_edition mode
edition-after w0 kind = grind (arith, common_steps)

module _ (pending : ℕ) (rest : List ℕ) (mode : Mode) (s : State) (e : state pending rest mode ≡ s) where
  pub advance-end : (length rest == 0) ≡ true → take_next s ≡ (record { kind = Eof; len = 0 }, s)
  unfolding take_next
  advance-end none = grind (arith, common_steps, eqb-true)

  pub advance-some : (length rest == 0) ≡ false
      → take_next s ≡ (token_past pending (token_at mode rest), past_token rest mode (token_at mode rest))
  unfolding take_next
  advance-some some = grind (arith, common_steps)

pub token_past-zero : (token : Token) → token_past 0 token ≡ token
token_past-zero token = grind (arith, common_steps, zero-add)
