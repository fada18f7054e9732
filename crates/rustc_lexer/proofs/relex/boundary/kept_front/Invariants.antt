use Rattle.std.proofs.Common.{length, map, List, ℕ, ◌≡◌, ◌<◌, ◌≤◌, ◌-◌, true, IsCharBoundary}
use Rattle.rustc_lexer.specs.{Token, Offsets.{IsBound}, model.Relexer.{IsFront}, Locality.{has_two}}
use Rattle.rustc_lexer.proofs.relex.boundary.kept_front.Given as goal

abbrev pub invariant-loop-at : goal.invariant-loop-at
invariant-loop-at g l = (l.at.index ≤ length l.tokens)
    × IsCharBoundary l.text l.at.offset
    × (l.at.offset ≤ l.start)
    × ((old : List ℕ) (ts : List Token) → IsFront old ts (map g.T.TextLen.bytes l.tokens) l.text l.start
    → IsBound ts l.fn.near
    → IsBound ts l.at × (0 < l.at.index → has_two old l.at.offset l.start ≡ true))

abbrev pub decreases-loop-at : goal.decreases-loop-at
decreases-loop-at g l = length l.tokens - l.at.index
