use Rattle.std.proofs.Common.{◌≡◌, List, slice_range, refl, ap, ◌∙◌, arith, rules}
use Rattle.rustc_lexer.specs.{Token, Tokens.{bound}}
use Rattle.rustc_lexer.proofs.lemmas.edits.{KeptBounds.{fits_seen}, Pieces.{bound-part}}
use Rattle.rustc_lexer.proofs.relex.lexed.Lexed.offset_of.Goals as goal

pub overflow_cast-start : goal.overflow_cast-start
overflow_cast-start g c =
    omega (
      arith,
      c.bound_before-near.ensures.offset,
      fits_seen (g.S.Stepper.law c.self.inside.parts.stepper) g.E.Extent.whole _ _ _ _ c.self.invariant
          c.args.self.now (ap (λ h. h.text) c.self.view_is)
          (ap (λ h. h.tokens) c.self.view_is) c.bound_before-near.result.index
          (omega (arith, c.bound_before-near.ensures.number, c.requires.inside)),
    )

pub end_from-requires : goal.end_from-requires
end_from-requires g c =
    let tokens : List Token = c.args.self.now.tokens in
    let at = c.bound_before-near.result in
    let items : slice_range c.as_slice-tokens.result.now at.index c.args.number ≡
    slice_range tokens at.index c.args.number =
    ap (λ (ts : List Token). slice_range ts at.index c.args.number)
    (c.as_slice-tokens.ensures.value ∙ ap (λ h. h.tokens) c.self.view_is) in
    let part = bound-part tokens (slice_range c.as_slice-tokens.result.now at.index c.args.number) at.index
    c.args.number (bound tokens at.index) c.bound_before-near.ensures.number c.requires.inside items refl in
    omega (
      arith,
      c.bound_before-near.ensures.offset,
      part,
      fits_seen (g.S.Stepper.law c.self.inside.parts.stepper) g.E.Extent.whole _ _ _ _ c.self.invariant
          c.args.self.now (ap (λ h. h.text) c.self.view_is) (ap (λ h. h.tokens) c.self.view_is) c.args.number
          c.requires.inside,
    )

pub returns : goal.returns
returns g c = search (rules, bound-part)
