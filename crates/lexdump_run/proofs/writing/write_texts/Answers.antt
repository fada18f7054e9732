use Rattle.std.proofs.Common.{◌++◌, List, ℕ, refl, ap}
use Rattle.std.proofs.lemmas.Result.{on_err_weaker}
use Rattle.lexdump_run.proofs.KnownLemmas.{front_first, front_last, front_more, on_err}
use Rattle.lexdump_run.proofs.writing.write_texts.Goals as goal

pub returns-in_err-write_bytes-2-clause-err : goal.returns-in_err-write_bytes-2-clause-err
returns-in_err-write_bytes-2-clause-err g c =
    on_err _ (front_more _ _ _ c.as_bytes.result.now _ _
    (ap (λ (xs : List ℕ). xs ++ (c.args.two.now ++ c.args.three.now)) c.as_bytes.ensures.value)
    c.in_ok-write_bytes.ensures.ok
    (front_first _ _ c.as_bytes-2.result.now _ _
    (ap (λ (xs : List ℕ). xs ++ c.args.three.now) c.as_bytes-2.ensures.value) c.in_err-write_bytes-2.ensures.err))

pub returns-clause-err : goal.returns-clause-err
returns-clause-err g c =
    on_err_weaker _ (front_last _ _ _ _ c.as_bytes.result.now c.as_bytes-2.result.now c.as_bytes-3.result.now _
    (rw (c.as_bytes.ensures.value, c.as_bytes-2.ensures.value, c.as_bytes-3.ensures.value) refl)
    c.in_ok-write_bytes.ensures.ok c.in_ok-write_bytes-2.ensures.ok) c.write_bytes-3.ensures.err
