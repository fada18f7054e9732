-- The outcome of a run, by the bytes that it reads.
use Rattle.std.specs.Prelude.{ℕ, ◌<◌, ◌≤◌, ◌^◌, ◌≡◌, List, [], length, take, Option, Result, Ok, Err}
use Rattle.std.specs.Str.{IsUtf8}
use Rattle.std.specs.Io.KnownBytes.{Keeps, Appends}
use Rattle.lexdump_run.specs.Known.{AppendsFront}
use Rattle.rustc_lexer.specs.declared.relex.edit.Edit.{Edit as TextEdit}
use Rattle.rustc_lexer.specs.declared.relex.edit_error.EditStop.{EditStop}
use Rattle.rustc_lexer.specs.declared.relex.edit_error.EditStop.TheVariants.{Range as RangeStop, TooLong as TooLongStop}
use Rattle.rustc_lexer.specs.Answers.{shebang}
use Rattle.rustc_lexer.specs.Classes.{IsText}
use Rattle.rustc_lexer.specs.Edits.{apply_list, stop_at, AreEdits, IsStop}
use Rattle.rustc_lexer.specs.LanguageText.{source, part, newest}
use Rattle.rustc_lexer.specs.Tokens.{tokens_of}
use Rattle.lexdump_run.specs.declared.fault.Fault.{Fault}
use Rattle.lexdump_run.specs.declared.fault.Fault.TheVariants.{NotUtf8, TooLong, EditRange, EditTooLong, Memory, Read, Write}
use Rattle.lexdump_run.specs.declared.job.Job.{Job}
use Rattle.lexdump_run.specs.declared.job.Job.TheVariants.{Plain, Front, Shebang, Edit}
use Rattle.lexdump_run.specs.Listing.{listing, shebang_line}

-- Holds for the output of a job for a text. If there are edits, all are valid, each for the text that the earlier edits
-- leave.
abbrev pub IsPrinted : Job → List ℕ → List ℕ → Type 0
IsPrinted (Plain edition) text made = made ≡ listing (tokens_of (part edition) text)
IsPrinted Front text made = made ≡ listing (tokens_of (source newest) text)
IsPrinted Shebang text made = made ≡ shebang_line (shebang text)
IsPrinted (Edit edition edits) text made =
    AreEdits text edits.items
    × (made ≡ listing (tokens_of (part edition) (apply_list text edits.items)))

-- Holds if a list of edits stops at this edit: the edits before it are valid, and it is rejected for the text that they
-- leave, by the rule of `rustc_lexer`.
abbrev pub StopsAt : EditStop → List ℕ → List TextEdit → Type 0
StopsAt stop text edits =
    AreEdits text (take (stop_at stop) edits)
    × IsStop stop (apply_list text (take (stop_at stop) edits)) edits

-- Holds for the faults of edits that were not applied: one of them was rejected, or an allocation failed.
abbrev pub IsRefused : List ℕ → List TextEdit → Fault → Type 0
IsRefused text edits (EditRange at) = StopsAt (RangeStop at) text edits
IsRefused text edits (EditTooLong at) = StopsAt (TooLongStop at) text edits
IsRefused text edits Memory = Unit {0}
IsRefused text edits fault = ⊥

abbrev pub edits_of : Job → List TextEdit
edits_of (Edit edition edits) = edits.items
edits_of job = []

-- Holds if a run over a text can have this result: on `Ok` all output was written, after a failed write a prefix of it,
-- and nothing if the edits were not applied.
abbrev pub Prints : Job → List ℕ → Option (List ℕ) → Option (List ℕ) → Result (Unit {0}) Fault
    → Type 0
Prints job text old new (Ok done) =
    (made : List ℕ) × IsPrinted job text made × Appends old new made
Prints job text old new (Err Write) =
    (made : List ℕ) × IsPrinted job text made × AppendsFront old new made
Prints job text old new (Err fault) = IsRefused text (edits_of job) fault × Keeps old new

-- Holds if a run over bytes can have this result. Nothing is written after a failed read or a failed allocation, or if
-- the bytes are too long or not UTF-8. Otherwise it is a run over a text.
abbrev pub Ends : Job → List ℕ → Option (List ℕ) → Option (List ℕ) → Result (Unit {0}) Fault
    → Type 0
Ends job bytes old new (Err Read) = Keeps old new
Ends job bytes old new (Err Memory) = Keeps old new
Ends job bytes old new (Err TooLong) = (2 ^ 32 ≤ length bytes) × Keeps old new
Ends job bytes old new (Err NotUtf8) = (length bytes < 2 ^ 32) × ¬ (IsUtf8 bytes) × Keeps old new
Ends job bytes old new result = IsText bytes × Prints job bytes old new result
