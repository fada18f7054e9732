use Rattle.std.proofs.Common.{length, ◌-◌, ◌≡◌}
use Rattle.rustc_lexer.proofs.lemmas.edits.Settled.{IsSureTo}
use Rattle.rustc_lexer.proofs.relex.settle.settled_by.Given as goal

abbrev pub invariant-loop-offset : goal.invariant-loop-offset
invariant-loop-offset g l = IsSureTo (g.S.Stepper.grammar l.fn.stepper).first l.text l.offset
    × (g.S.Stepper.grammar l.stepper ≡ g.S.Stepper.grammar l.fn.stepper)

abbrev pub decreases-loop-offset : goal.decreases-loop-offset
decreases-loop-offset g l = length l.text - l.offset
