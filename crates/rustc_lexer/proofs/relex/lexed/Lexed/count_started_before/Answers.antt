use Rattle.std.proofs.lemmas.Grind.{common_steps}
use Rattle.std.proofs.Common.{◌-◌, length, ap, arith, refl}
use Rattle.rustc_lexer.proofs.lemmas.edits.{Bounds.{bound_mono}, KeptBounds.{end_seen, none_past, start_seen}}
use Rattle.rustc_lexer.proofs.lemmas.edits.Offsets.{begun, not_begun}
use Rattle.rustc_lexer.proofs.relex.lexed.Lexed.count_started_before.Goals as goal

pub returns-in-Some-clause-begun : goal.returns-in-Some-clause-begun
returns-in-Some-clause-begun g c =
    λ k less. omega (
      arith,
      c.if-offset-self.false,
      begun _ c.args.self.now.tokens
          (c.args.offset - 1) c.in-Some.at c.in-Some.ensures.token k less,
    )

pub returns-in-Some-clause-others : goal.returns-in-Some-clause-others
returns-in-Some-clause-others g c =
    λ k from few. omega
    (arith, not_begun _ c.args.self.now.tokens (c.args.offset - 1) c.in-Some.at c.in-Some.ensures.token k from)

pub returns-in-None-clause-begun : goal.returns-in-None-clause-begun
returns-in-None-clause-begun g c = λ k less.
    let past = none_past c.in-None.ensures.some refl
    (omega (
      arith,
      c.if-offset-self.false,
      start_seen (g.S.Stepper.law c.self.inside.parts.stepper) g.E.Extent.whole
          _ _ _ _ c.self.invariant c.args.self.now (ap (λ h. h.text) c.self.view_is)
          (ap (λ h. h.tokens) c.self.view_is),
    )) in
    let most = bound_mono c.args.self.now.tokens k (length c.args.self.now.tokens)
    (omega (arith, less, c.len.ensures, ap (λ h. length h.tokens) c.self.view_is)) in
    omega (
      arith,
      c.if-offset-self.false,
      past,
      most,
      end_seen (g.S.Stepper.law c.self.inside.parts.stepper) g.E.Extent.whole _ _ _ _ c.self.invariant
          c.args.self.now (ap (λ h. h.text) c.self.view_is) (ap (λ h. h.tokens) c.self.view_is),
    )

pub returns-then-offset-self-clause-others : goal.returns-then-offset-self-clause-others
returns-then-offset-self-clause-others g c = grind (arith, common_steps, start_seen)
