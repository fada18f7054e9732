use Rattle.std.proofs.Common.{length, map, List, ℕ, ◌≤◌}
use Rattle.rustc_lexer.specs.{Token, Offsets.{ArePlaced}}
use Rattle.rustc_lexer.proofs.relex.boundary.walk_back.Given as goal

abbrev pub invariant-loop-at : goal.invariant-loop-at
invariant-loop-at g l = (l.at.index ≤ length l.tokens)
    × ((first : ℕ) (ts : List Token) → ArePlaced (map g.T.TextLen.bytes l.tokens) first ts l.fn.near
    → ArePlaced (map g.T.TextLen.bytes l.tokens) first ts l.at)

abbrev pub decreases-loop-at : goal.decreases-loop-at
decreases-loop-at g l = l.at.index
