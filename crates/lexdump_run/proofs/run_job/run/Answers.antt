use Rattle.std.proofs.{Common.{ap, arith}, lemmas.Grind.{common_steps}}
use Rattle.lexdump_run.proofs.OutcomeLemmas.{ends_listed}
use Rattle.lexdump_run.proofs.run_job.run.Goals as goal

pub returns-clause-ends : goal.returns-clause-ends
returns-clause-ends g c =
    ends_listed g.W.Write.contents _ _ c.as_str.result.now _ _ _ _ _ _
    (rw c.as_str.ensures.value c.in_ok-text.ensures.bytes) c.as_str.utf8
    (rw c.as_str.ensures.value c.in_ok-text.ensures.fits) c.new-lines.ensures.none
    (ap (λ w. g.W.Write.contents w.inner) c.new-lines.ensures.output)
    (grind (arith, common_steps)) c.in_ok-print.ensures.lists c.finish.ensures.pushed c.finish.ensures.empty
