-- Model of checkpoints, which are boundaries in a list of tokens, and of the effect of an edit on them.
use Rattle.std.specs.{Prelude.{◌≡◌, ◌+◌, ◌<◌, ◌≤◌, ◌^◌, ℕ, List, length, take, drop}, List.{All}}
use Rattle.rustc_lexer.specs.declared.relex.boundary.TokenStart.{TokenStart}
use Rattle.rustc_lexer.specs.declared.relex.checkpoints.Checkpoints.{Checkpoints}
use Rattle.rustc_lexer.specs.{Token}
use Rattle.rustc_lexer.specs.declared.relex.relexer.RelexState.{RelexState}
use Rattle.rustc_lexer.specs.Offsets.{IsBound}
use Rattle.rustc_lexer.specs.Relexer.{known}
use Rattle.rustc_lexer.specs.Partition.{bound}

-- Holds if `at` is a boundary of the tokens, by its index and its offset, if the first token starts at `first`.
abbrev pub IsBoundFrom : ℕ → List Token → TokenStart → Type 0
IsBoundFrom first tokens at =
    (at.index ≤ length tokens) × (at.offset ≡ first + bound tokens at.index)

-- Holds if all checkpoints are boundaries of the tokens.
abbrev pub AreBounds : List Token → Checkpoints → Type 0
AreBounds tokens checkpoints = All (IsBound tokens) checkpoints.bounds

-- Holds if an edit keeps the tokens before boundary `kept` and the tokens after boundary `met`, which is boundary `now`
-- of the new tokens.
pub record IsReplaced (old new : List Token) (kept met now : TokenStart) : Type 0 where
  pub kept_bound : IsBound old kept
  pub met_bound : IsBound old met
  pub now_bound : IsBound new now
  pub kept_le : kept.index ≤ now.index
  pub front : take kept.index new ≡ take kept.index old
  pub back : drop now.index new ≡ drop met.index old

-- Holds if `at` is before `met`, or can be moved by the distance from `met` to `now` without overflow.
abbrev pub IsMovable : TokenStart → TokenStart → TokenStart → Type 0
IsMovable met now at =
    met.index ≤ at.index → (met.offset ≤ at.offset) × (at.index + now.index < 2 ^ 64)
    × (at.offset + now.offset < 2 ^ 64)

-- Returns the boundary after the last token that was lexed.
abbrev pub end_of : RelexState → TokenStart
end_of at = record { index = known at; offset = at.at }
