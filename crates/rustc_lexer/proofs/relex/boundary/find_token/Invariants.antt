use Rattle.std.proofs.Common.{length, map, List, ℕ, ◌≤◌, ◌-◌}
use Rattle.rustc_lexer.specs.{Token, Offsets.{ArePlaced}}
use Rattle.rustc_lexer.proofs.relex.boundary.find_token.Given as goal

abbrev pub invariant-ahead : goal.invariant-ahead
invariant-ahead g l = (l.left ≤ l.offset)
    × ((first : ℕ) (ts : List Token) → ArePlaced (map g.T.TextLen.bytes l.tokens) first ts l.fn.near
    → ArePlaced (map g.T.TextLen.bytes l.tokens) first ts (record { index = l.index; offset = l.offset - l.left }))

abbrev pub decreases-ahead : goal.decreases-ahead
decreases-ahead g l = length l.tokens - l.index
