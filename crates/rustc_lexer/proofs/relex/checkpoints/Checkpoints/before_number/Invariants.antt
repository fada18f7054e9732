use Rattle.std.proofs.Common.{◌<◌, ◌≤◌, ℕ, List, get_or}
use Rattle.rustc_lexer.specs.{declared.relex.boundary.TokenStart.{TokenStart}, Token, model.Checkpoints.{AreBounds}}
use Rattle.rustc_lexer.specs.Offsets.{IsBound}
use Rattle.rustc_lexer.proofs.relex.checkpoints.Checkpoints.before_number.Given as goal

abbrev pub invariant-loop-bound : goal.invariant-loop-bound
invariant-loop-bound l = (l.last.index ≤ l.number)
    × ((tokens : List Token) → AreBounds tokens l.self → IsBound tokens l.last)
    × ((k : ℕ) (d : TokenStart) → k < l.bound-index → (get_or l.self.bounds k d).index ≤ l.number
    → (get_or l.self.bounds k d).index ≤ l.last.index)
