use Rattle.std.proofs.lemmas.Grind.{common_steps}
use Rattle.std.proofs.{Common.{◌+◌, drop, length, ap, arith}, lemmas.List.Elements.{All-contains}}
use Rattle.rustc_lexer.specs.{Offsets.{IsBound}, Tokens.{bound}, model.Document.{tokens_of_head}}
use Rattle.rustc_lexer.proofs.lemmas.edits.KeptBounds.{near_from, offset_fits, start_seen}
use Rattle.rustc_lexer.proofs.relex.lexed.Lexed.bound_near.Goals as goal

pub overflow_add-result-2 : goal.overflow_add-result-2
overflow_add-result-2 g c =
    let from = near_from (g.S.Stepper.law c.self.inside.parts.stepper) _ _ _ _ c.self.invariant
    c.nearest-near.result c.count.result c.count.ensures
    (All-contains (IsBound (drop (length (tokens_of_head c.self.inside.parts.head)) c.self.inside.parts.tokens.items))
    c.self.inside.parts.checkpoints.bounds c.nearest-near.result c.self.invariant.4 c.nearest-near.ensures) in
    omega (
      arith,
      from.1,
      offset_fits (g.S.Stepper.law c.self.inside.parts.stepper)
          _ _ _ _ c.self.invariant (c.count.result + c.nearest-near.result.index) from.0,
    )

pub returns : goal.returns
returns g c =
    let from = near_from (g.S.Stepper.law c.self.inside.parts.stepper) _ _ _ _ c.self.invariant
    c.nearest-near.result c.count.result c.count.ensures
    (All-contains (IsBound (drop (length (tokens_of_head c.self.inside.parts.head)) c.self.inside.parts.tokens.items))
    c.self.inside.parts.checkpoints.bounds c.nearest-near.result c.self.invariant.4 c.nearest-near.ensures) in (
      omega (arith, from.0, ap (λ h. length h.tokens) c.self.view_is),
      omega (
        arith,
        from.1,
        start_seen (g.S.Stepper.law c.self.inside.parts.stepper) g.E.Extent.whole
            _ _ _ _ c.self.invariant c.args.self.now (ap (λ h. h.text) c.self.view_is)
            (ap (λ h. h.tokens) c.self.view_is),
        ap (λ h. bound h.tokens (c.count.result + c.nearest-near.result.index))
            c.self.view_is,
      ),
    )

pub returns-then-offset-self : goal.returns-then-offset-self
returns-then-offset-self g c = grind (arith, common_steps, start_seen)
