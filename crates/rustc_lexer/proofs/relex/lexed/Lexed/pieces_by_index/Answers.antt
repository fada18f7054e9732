use Rattle.std.proofs.{lemmas.Grind.{common_steps}, Common.{rules}}
use Rattle.std.proofs.Common.{ap, ◌∙◌, arith, length-drop, length-take-le}
use Rattle.rustc_lexer.proofs.lemmas.edits.KeptBounds.{cut_seen, start_seen}
use Rattle.rustc_lexer.proofs.lemmas.edits.Pieces.{cut_part, length-pieces, pieces-part}
use Rattle.rustc_lexer.proofs.relex.lexed.Lexed.pieces_by_index.Goals as goal

pub offset_of-start-requires : goal.offset_of-start-requires
offset_of-start-requires g c = grind (arith, common_steps, start_seen)

pub invariant_of-result : goal.invariant_of-result
invariant_of-result g c =
    let text = c.as_str.ensures.value ∙ ap (λ h. h.text) c.self.view_is in
    let tokens = c.as_slice.ensures.value ∙ ap (λ h. h.tokens) c.self.view_is in
    rw (text, tokens)
    (cut_part _ _ _ _ _ _ c.args.from c.args.to c.requires.from_le_to c.requires.to_inside c.offset_of-start.ensures
    c.offset_of-end.ensures
    (cut_seen (g.S.Stepper.law c.self.inside.parts.stepper) g.E.Extent.whole _ _ _ _ c.self.invariant
    c.args.self.now (ap (λ h. h.text) c.self.view_is) (ap (λ h. h.tokens) c.self.view_is)))

pub returns : goal.returns
returns g c = grind (arith, common_steps, rules, pieces-part, length-drop, length-pieces, length-take-le)
