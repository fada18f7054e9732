use Rattle.std.proofs.Common.{refl}
use Rattle.rustc_literal_escaper.proofs.SinkLemmas.{warning_taken}
use Rattle.rustc_literal_escaper.proofs.elements.warn_of_lines.Goals as goal

pub returns-clause-takes : goal.returns-clause-takes
returns-clause-takes g c =
    warning_taken g.S.Sink.took c.take.result _ _ (g.T.Text.offset_of c.args.rest.now) c.args.start c.offset.result _
    (g.T.Text.left c.args.rest.now) _ (rw (c.if-not-lines.false) refl) c.offset.ensures c.take.ensures.took
