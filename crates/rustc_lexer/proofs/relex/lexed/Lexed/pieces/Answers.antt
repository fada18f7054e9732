use Rattle.std.proofs.lemmas.Grind.{common_steps}
use Rattle.std.proofs.Common.{arith}
use Rattle.rustc_lexer.proofs.lemmas.edits.{Heads.{start_is}, KeptBounds.{kept_cuts, offset_fits}}
use Rattle.rustc_lexer.proofs.lemmas.edits.Pieces.{length-pieces}
use Rattle.rustc_lexer.proofs.relex.lexed.Lexed.pieces.Goals as goal

pub overflow_cast-start : goal.overflow_cast-start
overflow_cast-start g c = grind (arith, common_steps, offset_fits)

pub overflow_cast-end : goal.overflow_cast-end
overflow_cast-end g c = grind (arith, common_steps, kept_cuts)

pub invariant_of-result : goal.invariant_of-result
invariant_of-result g c =
    rw (c.as_str-text.ensures.value, c.as_slice.ensures.value)
    (kept_cuts (g.S.Stepper.law c.self.inside.parts.stepper) _ _ _ _ c.self.invariant)

pub returns-clause-pieces : goal.returns-clause-pieces
returns-clause-pieces g c = grind (arith, common_steps, start_is)

pub returns-clause-number : goal.returns-clause-number
returns-clause-number g c = grind (arith, common_steps, length-pieces)
