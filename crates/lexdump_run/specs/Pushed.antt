-- The effect of writing bytes with a writer that can hold some back.
use Rattle.std.specs.Prelude.{ℕ, ◌≡◌, ◌||◌, List, ◌++◌, take, Option, Result, Ok, Err, is_err, IfErr, OnErr, OnOk}
use Rattle.lexdump_run.specs.Known.{AppendsFront, Went}
use Rattle.lexdump_run.specs.declared.fault.Fault.{Fault}
use Rattle.lexdump_run.specs.declared.fault.Fault.TheVariants.{Write}
use Rattle.lexdump_run.specs.declared.job.Job.{Job}
use Rattle.lexdump_run.specs.declared.output.BlockWriter.{BlockWriter}
use Rattle.lexdump_run.specs.Outcome.{edits_of, IsPrinted, IsRefused}

-- The writer holds these bytes, which are not written yet.
abbrev pub held : {W : Type 0} → BlockWriter W → List ℕ
held writer = take writer.len writer.bytes

-- Holds if bytes are added after the held ones. All of these bytes, in order, were written to the same output or are
-- held afterwards. If a write failed, a prefix of them was written.
pub record Pushes {W : Type 0} (contents : W → Option (List ℕ)) (old new : BlockWriter W)
    (bytes : List ℕ) (result : Result (Unit {0}) Fault) : Type 0 where
  pub same_output : new.output.ghost_name ≡ old.output.ghost_name
  pub failed : new.output.now.failed ≡ (old.output.now.failed || is_err result)
  pub only : IfErr result (λ fault. fault ≡ Write)
  pub ok : OnOk result (Went (contents old.output.now.inner) (contents new.output.now.inner)
      (held old ++ bytes) (held new))
  pub err : OnErr result (AppendsFront (contents old.output.now.inner)
      (contents new.output.now.inner) (held old ++ bytes))

-- Holds if the output of the job was pushed to the writer, or if the edits were not applied and nothing was pushed.
abbrev pub Lists : {W : Type 0} → (W → Option (List ℕ)) → Job → List ℕ → BlockWriter W
    → BlockWriter W → Result (Unit {0}) Fault → Type 0
Lists contents job text old new (Ok done) =
    (made : List ℕ) × IsPrinted job text made × Pushes contents old new made (Ok done)
Lists contents job text old new (Err Write) =
    (made : List ℕ) × IsPrinted job text made × Pushes contents old new made (Err Write)
Lists contents job text old new (Err fault) = IsRefused text (edits_of job) fault × (new ≡ old)
