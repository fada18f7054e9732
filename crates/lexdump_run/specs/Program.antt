-- The outcome of the program, by its arguments and the bytes that it reads.
use Rattle.std.specs.Prelude.{ℕ, ◌≡◌, ◌≢◌, ◌↔◌, true, List, Option, Some, None, Result, Err, IfErr, IfOk, IfSome, IsErrOf}
use Rattle.std.specs.Prelude.{IsTrue}
use Rattle.std.specs.Io.KnownBytes.{Keeps}
use Rattle.lexdump_run.specs.declared.fault.Fault.{Fault}
use Rattle.lexdump_run.specs.declared.fault.Fault.TheVariants.{Arguments, Memory, Read, Write}
use Rattle.lexdump_run.specs.declared.job.Job.{Job}
use Rattle.lexdump_run.specs.Job.{Command, command_of, job_of}
use Rattle.lexdump_run.specs.Outcome.{Ends}
use Rattle.lexdump_run.specs.Watch.{Watch}

-- Holds for the state of the reader and the writer after a run, if the known bytes of the output changed from `old` to
-- `new`.
pub record Leaves {R W : Type 0} (input : Watch R) (output : Watch W)
    (old new : Option (List ℕ)) (outcome : Result (Unit {0}) Fault) : Type 0 where
  -- The outcome is `Read` or `Write` exactly if the reader or the writer has failed.
  pub read : IsErrOf outcome Read ↔ IsTrue input.failed
  pub write : IsErrOf outcome Write ↔ IsTrue output.failed
  -- On `Ok`, the last call of the output was a flush that succeeded.
  pub flushed : IfOk outcome (λ _. output.flushed ≡ true)
  -- If the fault is not `Write`, the output is unchanged.
  pub unchanged : IfErr outcome (λ fault. fault ≢ Write → Keeps old new)

-- Holds for the outcome of a command, which some job executes, or for `Arguments` if there is no command. The bytes of
-- the reader are `known`, and the known bytes of the writer changed from `old` to `new`.
abbrev pub Executes : Option (List ℕ) → Option (List ℕ) → Option (List ℕ) → Option Command
    → Result (Unit {0}) Fault → Type 0
Executes known old new None outcome = outcome ≡ Err Arguments
Executes known old new (Some command) outcome =
    (job : Job) × (command_of job ≡ command)
    × IfSome known (λ bytes. Ends job bytes old new outcome)

-- Holds for the outcome of a run with these arguments, or with `None` if they could not be read. Unless the outcome is
-- `Memory`, they were read, and the run executes the command that they describe.
abbrev pub IsOutcome : Option (List (List ℕ)) → Option (List ℕ) → Option (List ℕ) → Option (List ℕ)
    → Result (Unit {0}) Fault → Type 0
IsOutcome None known old new outcome = outcome ≡ Err Memory
IsOutcome (Some words) known old new outcome =
    outcome ≢ Err Memory → Executes known old new (job_of words) outcome
