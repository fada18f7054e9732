use Rattle.std.proofs.Common.{◌≡◌, ◌++◌, ◌∷◌, [], List, ℕ, ap}
use Rattle.lexdump_run.specs.Fault.{fault_text}
use Rattle.lexdump_run.proofs.KnownLemmas.{front_first, front_kept, front_more, on_err}
use Rattle.lexdump_run.proofs.fault.print_message.Goals as goal

line-is : (name bytes before digits number after text : List ℕ) → bytes ≡ name → digits ≡ number
    → before ++ (number ++ after) ≡ text
    → bytes ++ (before ++ (digits ++ after)) ≡ name ++ text
line-is name bytes before digits number after text b d t = cc

pub returns-in_err-write_bytes-clause-err : goal.returns-in_err-write_bytes-clause-err
returns-in_err-write_bytes-clause-err g c =
    on_err _ (front_first _ _ c.as_bytes.result.now (fault_text c.args.fault.now ++ 10 ∷ []) _
    (ap (λ (xs : List ℕ). xs ++ (fault_text c.args.fault.now ++ 10 ∷ [])) c.as_bytes.ensures.value)
    c.in_err-write_bytes.ensures.err)

pub returns-in_err-write_texts-clause-err : goal.returns-in_err-write_texts-clause-err
returns-in_err-write_texts-clause-err g c =
    on_err _ (front_more _ _ _ _ _ _
    (line-is _ _ _ _ _ _ _ c.as_bytes.ensures.value c.digits.ensures c.text_of-number.ensures)
    c.in_ok-write_bytes.ensures.ok c.in_err-write_texts.ensures.err)

pub returns-clause-err : goal.returns-clause-err
returns-clause-err g c =
    on_err _ (front_kept _ _ _ _ _ _ _
    (line-is _ _ _ _ _ _ _ c.as_bytes.ensures.value c.digits.ensures c.text_of-number.ensures)
    c.in_ok-write_bytes.ensures.ok c.in_ok-write_texts.ensures.ok c.flush.ensures.bytes)
