use Rattle.std.proofs.Common.{length, map, List, ℕ, ◌≤◌, ◌<◌, ◌-◌, ◌^◌}
use Rattle.rustc_lexer.specs.{model.Relexer.{HasLengths}, Token, Tokens.{bound}, Offsets.{IsBound}}
use Rattle.rustc_lexer.proofs.relex.boundary.walk_forward.Given as goal

abbrev pub invariant-loop-at : goal.invariant-loop-at
invariant-loop-at g l = (l.at.index ≤ length l.tokens)
    × (l.fn.from.index ≤ l.at.index)
    × (l.at.offset < 2 ^ 63)
    × ((ts : List Token) → HasLengths ts (map g.T.TextLen.bytes l.tokens) → IsBound ts l.fn.from
    → ((k : ℕ) → k < l.fn.from.index → bound ts k < l.target)
    → IsBound ts l.at × ((k : ℕ) → k < l.at.index → bound ts k < l.target))

abbrev pub decreases-loop-at : goal.decreases-loop-at
decreases-loop-at g l = length l.tokens - l.at.index
