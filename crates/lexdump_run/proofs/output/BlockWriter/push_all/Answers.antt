use Rattle.std.proofs.{Common.{ap}, lemmas.List.{drop_more}}
use Rattle.std.specs.List.{flat_map}
use Rattle.lexdump_run.proofs.PushLemmas.{pushing_first, pushing_stopped}
use Rattle.lexdump_run.proofs.output.BlockWriter.push_all.Goals as goal

pub loop-text-preserved : goal.loop-text-preserved
loop-text-preserved g c =
    pushing_first c.loop-text.invariant
    (ap (flat_map (λ text. text.now)) (drop_more _ _ _ c.loop-text-test.true))
    c.in_ok-push.ensures

pub returns-in_err-push : goal.returns-in_err-push
returns-in_err-push g c =
    pushing_stopped _ _ c.loop-text.invariant
    (ap (flat_map (λ text. text.now)) (drop_more _ _ _ c.loop-text-test.true))
    c.in_err-push.ensures c.from_residual.ensures.1
