use Rattle.std.proofs.{Common.{refl, arith, rules}, lemmas.Grind.{common_steps}}
use Rattle.rustc_lexer.specs.LexedText.{piece_model}
use Rattle.examples.proofs.PieceLemmas.{writes_piece}
use Rattle.examples.proofs.repaint.repaint.Goals as goal

pub loop-piece-init : goal.loop-piece-init
loop-piece-init g c = grind (arith, common_steps, rules)

pub loop-piece-preserved : goal.loop-piece-preserved
loop-piece-preserved g c =
    λ w more. c.loop-piece.invariant w
    (writes_piece g.W.Write.write_str_gives _ _ _ _ w _ _ (piece_model c.in-Some.piece) _ _ _ c.in-Some.ensures.steps.0
    c.opening.ensures refl c.closing.ensures (c.in_ok-write_str.ensures.ok refl) (c.in_ok-write_str-2.ensures.ok refl)
    (c.in_ok-write_str-3.ensures.ok refl) more)
