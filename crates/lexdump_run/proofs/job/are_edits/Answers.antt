use Rattle.std.proofs.Common.{◌∙◌}
use Rattle.lexdump_run.proofs.JobLemmas.{some-after}
use Rattle.lexdump_run.proofs.job.are_edits.Goals as goal

pub loop-after-preserved : goal.loop-after-preserved
loop-after-preserved c = c.loop-after.invariant ∙ some-after _ _ _ c.in-Some.ensures
