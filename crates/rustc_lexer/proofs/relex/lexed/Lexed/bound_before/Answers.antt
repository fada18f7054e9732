use Rattle.std.proofs.lemmas.Grind.{common_steps}
use Rattle.std.proofs.Common.{◌+◌, length, ap, arith}
use Rattle.rustc_lexer.specs.Tokens.{bound}
use Rattle.rustc_lexer.proofs.lemmas.edits.KeptBounds.{near_at, offset_fits, start_seen}
use Rattle.rustc_lexer.proofs.relex.lexed.Lexed.bound_before.Goals as goal

pub overflow_add-result-2 : goal.overflow_add-result-2
overflow_add-result-2 g c =
    let at = near_at (g.S.Stepper.law c.self.inside.parts.stepper) _ _ _ _ c.self.invariant
    c.before_number-near.result c.count-count.result c.count-count.ensures
    (c.before_number-near.ensures.bound _ c.self.invariant.4) in
    omega (
      arith,
      at,
      offset_fits (g.S.Stepper.law c.self.inside.parts.stepper) _ _ _ _ c.self.invariant
          (c.count-count.result + c.before_number-near.result.index)
          (omega (
            arith,
            c.before_number-near.ensures.number,
            c.requires.inside,
            ap (λ h. length h.tokens) c.self.view_is,
            c.if-number-count.false,
          )),
    )

pub returns-clause-offset : goal.returns-clause-offset
returns-clause-offset g c =
    let at = near_at (g.S.Stepper.law c.self.inside.parts.stepper) _ _ _ _ c.self.invariant
    c.before_number-near.result c.count-count.result c.count-count.ensures
    (c.before_number-near.ensures.bound _ c.self.invariant.4) in
    omega (
      arith,
      at,
      start_seen (g.S.Stepper.law c.self.inside.parts.stepper) g.E.Extent.whole
          _ _ _ _ c.self.invariant c.args.self.now (ap (λ h. h.text) c.self.view_is)
          (ap (λ h. h.tokens) c.self.view_is),
      ap (λ h. bound h.tokens (c.count-count.result + c.before_number-near.result.index)) c.self.view_is,
    )

pub returns-then-number-count-clause-offset : goal.returns-then-number-count-clause-offset
returns-then-number-count-clause-offset g c = grind (arith, common_steps, start_seen)
