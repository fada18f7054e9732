use Rattle.std.proofs.{Common.{length, refl, ap, ◌∙◌, arith}, lemmas.Grind.{common_steps}}
use Rattle.rustc_lexer.proofs.lemmas.edits.KeptBounds.{kept_cuts, cut_seen, fits_seen}
use Rattle.rustc_lexer.proofs.lemmas.edits.Pieces.{cut_part, piece_is, piece_some}
use Rattle.rustc_lexer.proofs.relex.lexed.Lexed.piece_at.Goals as goal

pub overflow_cast-start : goal.overflow_cast-start
overflow_cast-start g c = grind (arith, common_steps, fits_seen)

pub overflow_cast-end : goal.overflow_cast-end
overflow_cast-end g c =
    omega (
      arith,
      ap length c.as_str-text.ensures.value,
      (kept_cuts (g.S.Stepper.law c.self.inside.parts.stepper) _ _ _ _ c.self.invariant).0,
    )

pub invariant_of-pieces : goal.invariant_of-pieces
invariant_of-pieces g c =
    let is = c.in_ok-at.ensures.token in
    let text = c.as_str-text.ensures.value ∙ ap (λ h. h.text) c.self.view_is in
    let tokens = c.as_slice.ensures.value ∙ ap (λ h. h.tokens) c.self.view_is in
    let all = cut_seen (g.S.Stepper.law c.self.inside.parts.stepper) g.E.Extent.whole
    _ _ _ _ c.self.invariant c.args.self.now (ap (λ h. h.text) c.self.view_is)
    (ap (λ h. h.tokens) c.self.view_is) in
    rw (text, tokens)
    (cut_part _ _ _ _ _ _ c.in_ok-at.at.index (length c.args.self.now.tokens) (omega (arith, is.number))
    (omega arith) is.start all.2 all)

pub returns-clause-piece : goal.returns-clause-piece
returns-clause-piece g c =
    let text = c.as_str-text.ensures.value ∙ ap (λ h. h.text) c.self.view_is in
    let tokens = c.as_slice.ensures.value ∙ ap (λ h. h.tokens) c.self.view_is in
    piece_is c.next.result c.args.self.now.text _ c.args.offset c.args.self.now.tokens c.in_ok-at.at _
    c.in_ok-at.ensures.token (rw (text, tokens) at c.next.ensures.steps)

pub returns-clause-some : goal.returns-clause-some
returns-clause-some g c =
    let text = c.as_str-text.ensures.value ∙ ap (λ h. h.text) c.self.view_is in
    let tokens = c.as_slice.ensures.value ∙ ap (λ h. h.tokens) c.self.view_is in
    let some = piece_some c.next.result c.args.self.now.text _ c.args.offset c.args.self.now.tokens c.in_ok-at.at _
    c.in_ok-at.ensures.token (rw (text, tokens) at c.next.ensures.steps) in
    (λ answered. c.in_ok-at.ensures.some.0 refl, λ inside. some)
