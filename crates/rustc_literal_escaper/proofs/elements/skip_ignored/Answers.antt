use Rattle.rustc_literal_escaper.proofs.RunLemmas.{runs_skipped}
use Rattle.rustc_literal_escaper.proofs.elements.skip_ignored.Goals as goal

pub returns-then-ignores_simple-clause-runs : goal.returns-then-ignores_simple-clause-runs
returns-then-ignores_simple-clause-runs g c = λ offset last left runs.
    runs_skipped g.S.Sink.took c.args.raw offset c.args.sink.now last left
    (c.ignores_simple.ensures.ignores c.if-ignores_simple.true) _ _ c.skip_simple.ensures.passes runs
