use Rattle.std.proofs.Common.{◌≡◌, length}
use Rattle.lexdump_run.specs.Known.{Went}
use Rattle.lexdump_run.proofs.writing.write_bytes.Given as goal

abbrev pub invariant-loop-rest : goal.invariant-loop-rest
invariant-loop-rest g l =
    (l.output.failed ≡ l.fn.output.failed)
    × Went (g.W.Write.contents l.fn.output.inner) (g.W.Write.contents l.output.inner) l.bytes l.rest

abbrev pub decreases-loop-rest : goal.decreases-loop-rest
decreases-loop-rest g l = length l.rest
