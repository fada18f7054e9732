use Rattle.std.proofs.Common.{length, map, string_bytes}
use Rattle.lexdump_run.specs.Job.{replacement}
use Rattle.lexdump_run.proofs.JobLemmas.{ReadBefore}
use Rattle.lexdump_run.proofs.job.read_edits.Given as goal

abbrev pub invariant-loop-edit : goal.invariant-loop-edit
invariant-loop-edit l = ReadBefore (map string_bytes l.words) (map replacement l.edits.items) (map string_bytes l.rest)

abbrev pub decreases-loop-edit : goal.decreases-loop-edit
decreases-loop-edit l = length l.rest
