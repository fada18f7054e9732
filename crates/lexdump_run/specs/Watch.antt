-- A reader or a writer, with whether it has failed, and whether its last call was a flush.
use Rattle.std.specs.Prelude.{ℕ, Bool, true, ◌==◌, ◌&&◌, not, List, length, Result, Ok, Err}
use Rattle.std.specs.declared.io.Error.{Error}

pub record Watch (T : Type 0) : Type 0 where
  pub inner : T
  -- This is true if a call has failed.
  pub failed : Bool
  -- This is true if the last call was a flush that succeeded.
  pub flushed : Bool

-- Whether a write of these bytes failed: it returned an error, or it wrote 0 of some bytes.
abbrev pub is_failed_write : Result ℕ Error → List ℕ → Bool
is_failed_write (Ok n) bytes = n == 0 && not (length bytes == 0)
is_failed_write (Err error) bytes = true
