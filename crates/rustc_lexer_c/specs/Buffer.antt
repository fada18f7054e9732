-- Writing texts into a caller's buffer, one after another.
use Rattle.std.specs.Prelude.{ℕ, ◌+◌, ◌≡◌, ◌≤◌, List, ◌++◌, length, take, drop}
use Rattle.rustc_lexer_c.specs.declared.buffer.Buffer.{Buffer}

-- Holds if the bytes were appended to the written part of the same buffer, and the bytes after them are unchanged.
pub record Appends (s : Buffer) (bytes : List ℕ) (t : Buffer) : Type 0 where
  pub same_reference : t.bytes.ghost_name ≡ s.bytes.ghost_name
  pub within : t.len ≤ length t.bytes.now
  pub more : s.len ≤ t.len
  pub written : take t.len t.bytes.now ≡ take s.len s.bytes.now ++ bytes
  pub rest : drop t.len t.bytes.now ≡ drop t.len s.bytes.now

-- Holds if the buffer has room for these bytes after its written part.
abbrev pub HasRoom : Buffer → List ℕ → Type 0
HasRoom s bytes = s.len + length bytes ≤ length s.bytes.now
