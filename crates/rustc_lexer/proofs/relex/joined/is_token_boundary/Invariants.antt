use Rattle.std.proofs.Common.{length, ◌-◌}
use Rattle.rustc_lexer.proofs.lemmas.joined.Joined.{IsSeamFrom}
use Rattle.rustc_lexer.proofs.relex.joined.is_token_boundary.Given as goal

abbrev pub invariant-loop-offset : goal.invariant-loop-offset
invariant-loop-offset l = IsSeamFrom l.edition l.text l.at l.offset

abbrev pub decreases-loop-offset : goal.decreases-loop-offset
decreases-loop-offset l = length l.text - l.offset
