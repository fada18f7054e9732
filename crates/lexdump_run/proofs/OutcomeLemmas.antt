-- The outcome of a run follows from the outcomes of reading and listing.
use Rattle.std.proofs.Common.{◌≡◌, ℕ, ◌<◌, ◌^◌, List, [], length, sym, arith, append-nil, Option}
use Rattle.std.proofs.Common.{Result, Ok, Err}
use Rattle.std.proofs.lemmas.Grind.{common_steps}
use Rattle.std.specs.{Prelude.{IfSome, OnErr, OnOk}, Str.{IsUtf8}, Io.KnownBytes.{Appends}}
use Rattle.lexdump_run.specs.{Known.{AppendsFront}, Reading.{IsInputFault}}
use Rattle.lexdump_run.proofs.KnownLemmas.{keeps_same}
use Rattle.rustc_lexer.specs.Classes.{IsText}
use Rattle.lexdump_run.specs.declared.fault.Fault.{Fault}
use Rattle.lexdump_run.specs.{declared.{job.Job.{Job}, output.BlockWriter.{BlockWriter}}, Outcome.{Ends}}
use Rattle.lexdump_run.specs.Pushed.{held, Lists, Pushes}
use Rattle.lexdump_run.proofs.PushLemmas.{pushes_both}

-- If no text was read, the run ends with the error of the input.
pub ends_unread : (job : Job) (known old : Option (List ℕ)) (fault : Fault) → IsInputFault known fault
    → IfSome known (λ bytes. Ends job bytes old old (Err fault))
ends_unread job known old fault is = grind (arith, common_steps, keeps_same)

-- A property of the text is a property of the known bytes, which are the text.
text_known : (P : List ℕ → Type 0) (known : Option (List ℕ)) (text : List ℕ) → IfSome known (λ bytes. text ≡ bytes)
    → P text → IfSome known P
text_known P known text w3 w4 = grind (arith, common_steps)

-- The output of a writer has these known bytes.
abbrev pub written : {W : Type 0} → (W → Option (List ℕ)) → BlockWriter W → Option (List ℕ)
written contents writer = contents writer.output.now.inner

-- In this section, bytes are pushed to an empty block, which is then written out.
module _ {W : Type 0} (contents : W → Option (List ℕ)) (start end : BlockWriter W) (none : held start ≡ [])
    (made : List ℕ) where
  pushed_out : (result : Result (Unit {0}) Fault) → Pushes contents start end made result → OnOk result (held end ≡ [])
      → OnOk result (Appends (written contents start) (written contents end) made)
      × OnErr result (AppendsFront (written contents start) (written contents end) made)
  pushed_out (Ok done) p empty = (
    rw (rw (none, empty, append-nil p.ok.front) at p.ok.whole) p.ok.grew,
    tt,
  )
  pushed_out (Err fault) p empty = (
    tt,
    rw none at p.err,
  )

  -- If the block is finished, all bytes were written, or a prefix of them if a write failed.
  pub finished : (mid : BlockWriter W) (old new : Option (List ℕ)) (result : Result (Unit {0}) Fault)
      → written contents start ≡ old → written contents end ≡ new → Pushes contents start mid made (Ok tt)
      → Pushes contents mid end [] result → OnOk result (held end ≡ [])
      → OnOk result (Appends old new made) × OnErr result (AppendsFront old new made)
  finished mid old new result e f p q empty =
      rw (← e, ← f) (pushed_out result
      (pushes_both result (sym (append-nil made)) p q) empty)

-- If everything was listed and the held bytes are written at the end, the run has the specified outcome.
pub ends_listed : {W : Type 0} (contents : W → Option (List ℕ)) (job : Job) (known : Option (List ℕ)) (text : List ℕ)
    (start mid end : BlockWriter W) (old new : Option (List ℕ)) (result : Result (Unit {0}) Fault)
    → IfSome known (λ bytes. text ≡ bytes) → IsUtf8 text → length text < 2 ^ 32 → held start ≡ []
    → written contents start ≡ old → written contents end ≡ new → Lists contents job text start mid (Ok tt)
    → Pushes contents mid end [] result → OnOk result (held end ≡ [])
    → IfSome known (λ bytes. Ends job bytes old new result)
ends_listed contents job known text start mid end old new result is utf8 fits none e f p q empty =
    let out = finished contents start end none p.0 mid old new result e f p.2 q empty in
    let it : IsText text = record { utf8 = utf8; fits = fits } in
    text_known (λ bytes. Ends job bytes old new result) known text is (grind (arith, common_steps, q.only, out))
