use Rattle.std.proofs.Common.{length, map, ap, refl, ◌∙◌}
use Rattle.rustc_lexer.specs.{LexedText.{start_in}, Offsets.{ArePlaced}, Token}
use Rattle.rustc_lexer.proofs.lemmas.edits.{KeptBounds.{end_seen}, Offsets.{answered, if_some}}
use Rattle.rustc_lexer.proofs.relex.lexed.Lexed.token_start_at.Goals as goal

pub returns : goal.returns
returns g c =
    let read = c.as_slice.ensures.value ∙ ap (λ h. h.tokens) c.self.view_is in
    let near = c.bound_near-near.ensures in
    let placed : ArePlaced (map (λ (t : Token). t.len) c.args.self.now.tokens)
    (start_in g.E.Extent.whole c.args.self.now.text) c.args.self.now.tokens c.bound_near-near.result =
    record { lengths_are = refl; number = near.0; offset = near.1 } in
    let token = if_some c.args.offset c.find_token.result (rw read at c.find_token.ensures.token) placed in
    let end = end_seen (g.S.Stepper.law c.self.inside.parts.stepper) g.E.Extent.whole _ _ _ _ c.self.invariant
    c.args.self.now (ap (λ h. h.text) c.self.view_is) (ap (λ h. h.tokens) c.self.view_is) in
    record {
      token = token;
      some = answered c.find_token.result _ c.args.self.now.tokens c.args.offset (length c.args.self.now.text) end
          token (λ none le. rw end at
          (rw read at c.find_token.ensures.none none _ c.args.self.now.tokens placed le));
    }
