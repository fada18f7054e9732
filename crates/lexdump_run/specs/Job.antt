-- The arguments of the program, and the job that they describe.
use Rattle.std.specs.Prelude.{ℕ, ◌≡◌, ◌+◌, ◌*◌, ◌-◌, ◌&&◌, nat_le, if◌then◌else◌, List, [], ◌∷◌, length, map, codes}
use Rattle.std.specs.Prelude.{Option, Some, None}
use Rattle.std.specs.Option.{option_map, option_zip}
use Rattle.std.specs.Str.{all_ascii_digits, bytes_eq}
use Rattle.rustc_lexer.specs.declared.edition.Edition.{Edition}
use Rattle.rustc_lexer.specs.declared.relex.edit.Edit.{Edit as TextEdit}
use Rattle.rustc_lexer.specs.LanguageCalls.{edition_of}
use Rattle.rustc_lexer.specs.LanguageText.{newest}
use Rattle.lexdump_run.specs.declared.fault.Fault.{Fault}
use Rattle.lexdump_run.specs.declared.fault.Fault.TheVariants.{Arguments, Memory}
use Rattle.lexdump_run.specs.declared.job.Job.{Job}
use Rattle.lexdump_run.specs.declared.job.Job.TheVariants.{Plain, Front, Shebang, Edit}

-- An edit replaces the bytes from `start` to `stop` by `insert`.
pub record Replacement : Type 0 where
  pub start : ℕ
  pub stop : ℕ
  pub insert : List ℕ

-- A command is the job that the arguments describe.
pub data Command : Type 0 where
  plain : Edition → Command
  front : Command
  shebang : Command
  edit : Edition → List Replacement → Command

-- Decimal digits that follow the digits of n denote this number.
abbrev pub number_after : ℕ → List ℕ → ℕ
number_after n [] = n
number_after n (digit ∷ digits) = number_after (10 * n + (digit - 48)) digits

-- Decimal digits denote this number.
abbrev pub number_of : List ℕ → ℕ
number_of digits = number_after 0 digits

-- A word denotes an offset if it consists of one to ten ASCII digits with a value of at most 4294967295.
unfoldable pub place_of : List ℕ → Option ℕ
place_of word =
    if all_ascii_digits word && (nat_le 1 (length word)
    && (nat_le (length word) 10 && nat_le (number_of word) 4294967295))
    then Some (number_of word) else None

-- Three words describe an edit if the first two denote offsets.
abbrev pub replacement_of : List ℕ → List ℕ → List ℕ → Option Replacement
replacement_of start stop insert =
    option_map (λ places. record { start = places.0; stop = places.1; insert = insert })
    (option_zip (place_of start) (place_of stop))

-- Words describe edits if every three of them describe one.
abbrev pub replacements_of : List (List ℕ) → Option (List Replacement)
replacements_of [] = Some []
replacements_of (start ∷ []) = None
replacements_of (start ∷ stop ∷ []) = None
replacements_of (start ∷ stop ∷ insert ∷ words) =
    option_map (λ edits. edits.0 ∷ edits.1)
    (option_zip (replacement_of start stop insert) (replacements_of words))

-- If the first three words describe an edit, this is the edit, with the words after it.
abbrev pub first_replacement : List (List ℕ) → Option (Replacement × List (List ℕ))
first_replacement [] = None
first_replacement (start ∷ []) = None
first_replacement (start ∷ stop ∷ []) = None
first_replacement (start ∷ stop ∷ insert ∷ words) =
    option_map (λ edit. (edit, words)) (replacement_of start stop insert)

-- The words after `edit` are a command if they describe one edit or more.
abbrev pub edit_job : Edition → List (List ℕ) → Option Command
edit_job edition [] = None
edit_job edition (start ∷ words) = option_map (edit edition) (replacements_of (start ∷ words))

-- In an edition, no words request the tokens of the text, and `edit` with one edit or more requests the tokens of the
-- edited text.
abbrev pub job_in : Edition → List (List ℕ) → Option Command
job_in edition [] = Some (plain edition)
job_in edition (word ∷ words) =
    if bytes_eq word (codes "edit") then edit_job edition words else None

-- Words after an invalid edition are not a command.
abbrev pub job_by : Option Edition → List (List ℕ) → Option Command
job_by None words = None
job_by (Some edition) words = job_in edition words

-- After the program's name, `front` requests the tokens of the text, which may start with a frontmatter, and `shebang`
-- requests the length of its shebang line. `--edition` and a year select an edition for the words after them. All other
-- words are a command in the newest edition.
abbrev pub job_of : List (List ℕ) → Option Command
job_of [] = job_in newest []
job_of (word ∷ []) =
    if bytes_eq word (codes "front") then Some front
    else (if bytes_eq word (codes "shebang") then Some shebang
    else job_in newest (word ∷ []))
job_of (word ∷ second ∷ words) =
    if bytes_eq word (codes "--edition") then job_by (edition_of second) words
    else job_in newest (word ∷ second ∷ words)

abbrev pub replacement : TextEdit → Replacement
replacement e = record { start = e.start; stop = e.stop; insert = e.insert.now }

-- A job executes this command, which has its edits as a list.
abbrev pub command_of : Job → Command
command_of (Plain edition) = plain edition
command_of Front = front
command_of Shebang = shebang
command_of (Edit edition edits) = edit edition (map replacement edits.items)

-- Holds if the command has edits.
abbrev pub AsksEdits : Option Command → Type 0
AsksEdits (Some (edit edition edits)) = Unit {0}
AsksEdits command = ⊥

-- Holds for the fault of words without a job: they describe no command, or an allocation for their edits failed.
abbrev pub IsJobFault : Fault → Option Command → Type 0
IsJobFault Arguments command = command ≡ None
IsJobFault Memory command = AsksEdits command
IsJobFault fault command = ⊥
