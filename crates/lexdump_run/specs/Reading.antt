-- The result of reading to the end, and of reading a text.
use Rattle.std.specs.Prelude.{ℕ, ◌^◌, ◌≡◌, ◌<◌, ◌≤◌, List, length, Option, IfSome, Result, Ok, Err, Vec}
use Rattle.std.specs.Global.{Global}
use Rattle.std.specs.Str.{IsUtf8}
use Rattle.lexdump_run.specs.declared.fault.Fault.{Fault}
use Rattle.lexdump_run.specs.declared.fault.Fault.TheVariants.{NotUtf8, TooLong, Memory, Read}

-- Holds if reading to the end can have this result. If the bytes are known, `Ok` contains all of them, and `TooLong`
-- means that they are 4 GiB or more.
abbrev pub EndsReading : Option (List ℕ) → Result (Vec ℕ Global) Fault → Type 0
EndsReading known (Ok read) = IfSome known (λ bytes. read.items ≡ bytes)
EndsReading known (Err TooLong) = IfSome known (λ bytes. 2 ^ 32 ≤ length bytes)
EndsReading known (Err Memory) = Unit {0}
EndsReading known (Err Read) = Unit {0}
EndsReading known (Err fault) = ⊥

-- Holds for the faults of an input that is not read as a text. `NotUtf8` and `TooLong` state a property of the bytes,
-- if they are known. After a failed read or allocation nothing is stated about them.
abbrev pub IsInputFault : Option (List ℕ) → Fault → Type 0
IsInputFault known NotUtf8 = IfSome known (λ bytes. (length bytes < 2 ^ 32) × ¬ (IsUtf8 bytes))
IsInputFault known TooLong = IfSome known (λ bytes. 2 ^ 32 ≤ length bytes)
IsInputFault known Memory = Unit {0}
IsInputFault known Read = Unit {0}
IsInputFault known fault = ⊥
