use Rattle.std.proofs.Common.{◌≡◌, length, map, string_bytes}
use Rattle.std.specs.Prelude.{is_some}
use Rattle.lexdump_run.specs.Job.{replacements_of}
use Rattle.lexdump_run.proofs.job.are_edits.Given as goal

abbrev pub invariant-loop-after : goal.invariant-loop-after
invariant-loop-after l = is_some (replacements_of (map string_bytes l.words)) ≡
    is_some (replacements_of (map string_bytes l.rest))

abbrev pub decreases-loop-after : goal.decreases-loop-after
decreases-loop-after l = length l.rest
