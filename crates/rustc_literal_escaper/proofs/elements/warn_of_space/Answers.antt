use Rattle.std.proofs.Common.{refl, sym, ap, ◌∙◌}
use Rattle.rustc_literal_escaper.specs.model.Elements.{more_space}
use Rattle.rustc_literal_escaper.proofs.SinkLemmas.{at_same, warning_taken}
use Rattle.rustc_literal_escaper.proofs.elements.warn_of_space.Goals as goal

pub returns-clause-takes : goal.returns-clause-takes
returns-clause-takes g c =
    warning_taken g.S.Sink.took c.take.result _ _ (g.T.Text.offset_of c.args.rest.now) c.args.start c.offset.result _
    (g.T.Text.left c.next_char.new.self) _
    (ap (λ (t : _). more_space (g.T.Text.left t)) (sym c.copy-ahead.ensures)
    ∙ rw (c.in-Some.ensures.left, ← c.is_whitespace.ensures, c.if-not-is_whitespace.false) refl)
    (at_same (g.T.Text.left c.next_char.new.self) c.offset.ensures
    (c.in-Some.ensures.same ∙ ap g.T.Text.offset_of c.copy-ahead.ensures))
    c.take.ensures.took
