use Rattle.std.proofs.Common.{drop}
use Rattle.std.specs.List.{flat_map}
use Rattle.lexdump_run.proofs.PushLemmas.{Pushing}
use Rattle.lexdump_run.proofs.output.BlockWriter.push_all.Given as goal

abbrev pub invariant-loop-text : goal.invariant-loop-text
invariant-loop-text g l = Pushing g.W.Write.contents l.fn.self l.self (flat_map (λ text. text.now) l.texts)
    (flat_map (λ text. text.now) (drop l.text-index l.texts))
