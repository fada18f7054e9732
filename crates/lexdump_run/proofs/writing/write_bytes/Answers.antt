use Rattle.std.proofs.Common.{refl}
use Rattle.lexdump_run.proofs.KnownLemmas.{went_more, went_kept, went_front}
use Rattle.lexdump_run.proofs.writing.write_bytes.Goals as goal

pub returns-in-Err-clause-err : goal.returns-in-Err-clause-err
returns-in-Err-clause-err g c = went_front _ _ _ _ (went_kept _ _ _ _ _ c.loop-rest.invariant.1 c.in-Err.ensures.bytes)

pub returns-then-count-eq0-clause-err : goal.returns-then-count-eq0-clause-err
returns-then-count-eq0-clause-err g c =
    went_front _ _ _ _ (went_more _ _ _ _ _ _ _ c.loop-rest.invariant.1 c.in-Ok.ensures.bytes refl)
