-- The reasons why the program stops: exit statuses and messages.
use Rattle.std.specs.Prelude.{ℕ, ◌≡◌, Bool, true, List, [], ◌∷◌, ◌++◌, codes, decimal, Option, Some, None}
use Rattle.std.specs.Prelude.{Result, Ok, Err, OnErr}
use Rattle.std.specs.Io.KnownBytes.{Appends}
use Rattle.rustc_lexer.specs.declared.relex.edit_error.EditStop.{EditStop}
use Rattle.rustc_lexer.specs.declared.relex.edit_error.EditStop.TheVariants.{Range as RangeStop, TooLong as TooLongStop}
use Rattle.rustc_lexer.specs.declared.relex.edit_error.EditStop.TheVariants.{Memory as MemoryStop}
use Rattle.lexdump_run.specs.Known.{AppendsFront}
use Rattle.lexdump_run.specs.declared.fault.Fault.{Fault}
use Rattle.lexdump_run.specs.declared.fault.Fault.TheVariants.{Arguments, NotUtf8, TooLong, EditRange, EditTooLong, Memory}
use Rattle.lexdump_run.specs.declared.fault.Fault.TheVariants.{Read, Write}

abbrev pub status_of : Fault → ℕ
status_of Arguments = 2
status_of NotUtf8 = 3
status_of TooLong = 4
status_of (EditRange at) = 5
status_of (EditTooLong at) = 5
status_of Memory = 6
status_of Read = 7
status_of Write = 7

unfoldable pub fault_text : Fault → List ℕ
fault_text Arguments = codes "bad arguments"
fault_text NotUtf8 = codes "input is not UTF-8"
fault_text TooLong = codes "input too long"
fault_text (EditRange at) = codes "edit " ++ (decimal at ++ codes ": bad range")
fault_text (EditTooLong at) = codes "edit " ++ (decimal at ++ codes ": text too long")
fault_text Memory = codes "no memory"
fault_text Read = codes "read failed"
fault_text Write = codes "write failed"

abbrev pub number_text : Option ℕ → List ℕ
number_text None = []
number_text (Some n) = decimal n

-- The message for a fault is a line with the program's name and the text of the fault.
abbrev pub message : Fault → List ℕ
message fault = codes "lexdump: " ++ (fault_text fault ++ 10 ∷ [])

abbrev pub exit_status : Result (Unit {0}) Fault → ℕ
exit_status (Ok done) = 0
exit_status (Err fault) = status_of fault

-- For a fault, the program prints a message on the error stream; otherwise it prints nothing there.
abbrev pub printed : Result (Unit {0}) Fault → List ℕ
printed (Ok done) = []
printed (Err fault) = message fault

-- Holds if an outcome was reported: by the exit status, and by the message, which is complete if the error stream has
-- not failed. The known bytes of that stream grew from `old` to `new`.
pub record IsReported (outcome : Result (Unit {0}) Fault) (answer : ℕ) (has_not_failed : Type 0)
    (is_flushed : Bool) (old new : Option (List ℕ)) : Type 0 where
  pub status : answer ≡ exit_status outcome
  pub line : has_not_failed → Appends old new (printed outcome)
  pub front : AppendsFront old new (printed outcome)
  pub flushed : OnErr outcome (has_not_failed → is_flushed ≡ true)

-- A list of edits that stopped has this fault.
abbrev pub stop_fault : EditStop → Fault
stop_fault (RangeStop at) = EditRange at
stop_fault (TooLongStop at) = EditTooLong at
stop_fault (MemoryStop at) = Memory
