use Rattle.std.proofs.Common.{length}
use Rattle.std.specs.Fmt.{WritesInCalls}
use Rattle.rustc_lexer.specs.LexedText.{pieces_from}
use Rattle.examples.specs.Repaint.{changed, styled}
use Rattle.examples.proofs.repaint.repaint.Given as goal

abbrev pub invariant-loop-piece : goal.invariant-loop-piece
invariant-loop-piece g l = (w : _) → WritesInCalls g.W.Write.write_str_gives l.output (styled l.piece-iterator) w
    → WritesInCalls g.W.Write.write_str_gives l.initial.output
    (styled (changed l.fn.relexed (pieces_from l.fn.lexed.text 0 l.fn.lexed.tokens))) w

abbrev pub decreases-loop-piece : goal.decreases-loop-piece
decreases-loop-piece g l = length l.piece-iterator
